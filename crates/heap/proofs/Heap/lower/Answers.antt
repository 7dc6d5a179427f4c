use Rattle.std.proofs.Common.{◌≡◌, ◌<◌, cond, eqb, ltb, length, get_or, set, Some, None, sym, refl, ap, ◌∙◌, arith}
use Rattle.std.proofs.lemmas.List.{set-get_or}
use Rattle.std.proofs.lemmas.Option.{slice_get-get_or}
use Rattle.std.proofs.lemmas.Bool.{and_parts, ltb-true, eqb-true, cond-true}
use Rattle.std.specs.List.{slice_get}
use Rattle.heap.specs.Heaps.{heap_waits}
use Rattle.heap.specs.Places.{stands}
use Rattle.queue.specs.Waits.{lowered}
use Rattle.heap.proofs.Made.{made_as, made_waits, made_but_at}
use Rattle.heap.proofs.Stands.{at_waits}
use Rattle.heap.proofs.Changes.{lower_made, lower_but}
use Rattle.heap.proofs.Heap.lower.Goals as goal

pub rise-requires : goal.rise-requires
rise-requires g c =
    let h = c.args.self.now in
    let keys = h.keys.now in
    let codes = h.codes.now in
    let places = h.places.now in
    let code = c.args.code in
    let key = c.args.key in
    let at = get_or places code 0 in
    let made = c.set_key.ensures in
    let room : code < length keys = omega (arith, c.requires.inside, h.room.1) in
    let parts = and_parts (ltb at h.len) (eqb (get_or codes at 0) code) c.requires.waits in
    let inside = ltb-true at h.len parts.0 in
    record {
      inside = made_as made (λ cap n ks cs ps. at < n) inside;
      but = made_but_at made g.K.Cost.kind.below at
          (λ d.
          lower_but keys codes places h.len h.cap code key g.met.K.Cost.laws d at room
          (sym (c.if-falls.ensures d)) h.found inside (eqb-true (get_or codes at 0) code parts.1) (c.requires.good.ordered d));
    }

pub returns-then-falls : goal.returns-then-falls
unfolding heap_waits
returns-then-falls g c =
    let h = c.args.self.now in
    let keys = h.keys.now in
    let codes = h.codes.now in
    let places = h.places.now in
    let code = c.args.code in
    let key = c.args.key in
    let made = c.set_key.ensures in
    let room : code < length keys = omega (arith, c.requires.inside, h.room.1) in
    let old : get_or (heap_waits h) code None ≡ Some (get_or keys code key) = at_waits h code c.requires.inside ∙ cond-true (stands h.len codes places code) (slice_get keys code) None c.requires.waits ∙ slice_get-get_or keys code key room in
    let new : Some key ≡ lowered g.K.Cost.kind.below (Some (get_or keys code key)) key = ap (λ b. cond b (Some key) (Some (get_or keys code key))) (c.if-falls.ensures key) in
    record {
      good = c.rise.ensures.good;
      lends = c.rise.ensures.kept.lends ∙ made.lends;
      waits =
          c.rise.ensures.kept.waits ∙
          made_waits made ∙
          lower_made keys codes places h.len h.cap code key c.requires.inside h.room.1 c.requires.waits ∙
          ap (set (heap_waits h) code) (new ∙ ap (λ o. lowered g.K.Cost.kind.below o key) (sym old));
    }

pub returns-else-falls : goal.returns-else-falls
returns-else-falls g c =
    let h = c.args.self.now in
    let keys = h.keys.now in
    let codes = h.codes.now in
    let places = h.places.now in
    let code = c.args.code in
    let key = c.args.key in
    let room : code < length keys = omega (arith, c.requires.inside, h.room.1) in
    let old : get_or (heap_waits h) code None ≡ Some (get_or keys code key) = at_waits h code c.requires.inside ∙ cond-true (stands h.len codes places code) (slice_get keys code) None c.requires.waits ∙ slice_get-get_or keys code key room in
    let same : Some (get_or keys code key) ≡ lowered g.K.Cost.kind.below (Some (get_or keys code key)) key = ap (λ b. cond b (Some key) (Some (get_or keys code key))) (c.if-falls.ensures key) in
    record {
      good = c.requires.good;
      lends = refl;
      waits = sym (ap (set (heap_waits h) code) (ap (λ o. lowered g.K.Cost.kind.below o key) old ∙ sym same ∙ sym old) ∙ set-get_or (heap_waits h) code None);
    }
