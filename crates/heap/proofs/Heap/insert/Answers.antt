use Rattle.std.proofs.Common.{◌≡◌, get_or, set, None, sym, ap, ◌∙◌}
use Rattle.std.proofs.lemmas.Bool.{cond-false}
use Rattle.std.specs.List.{slice_get}
use Rattle.heap.specs.Heaps.{heap_waits}
use Rattle.heap.specs.Places.{stands}
use Rattle.queue.specs.Waits.{lowered}
use Rattle.heap.proofs.Made.{made_waits}
use Rattle.heap.proofs.Stands.{at_waits}
use Rattle.heap.proofs.Changes.{insert_made}
use Rattle.heap.proofs.Heap.insert.Goals as goal

pub returns : goal.returns
unfolding heap_waits
returns g c =
    let h = c.args.self.now in
    let keys = h.keys.now in
    let codes = h.codes.now in
    let places = h.places.now in
    let code = c.args.code in
    let key = c.args.key in
    let made = c.append.ensures in
    let old : get_or (heap_waits h) code None ≡ None = at_waits h code c.requires.inside ∙ cond-false (stands h.len codes places code) (slice_get keys code) None c.requires.waits in
    record {
      good = c.rise.ensures.good;
      lends = c.rise.ensures.kept.lends ∙ made.lends;
      waits =
          c.rise.ensures.kept.waits ∙
          made_waits made ∙
          insert_made codes places h.len h.cap code c.requires.inside h.room.3 h.room.2 h.found c.requires.waits keys key h.room.1 ∙
          ap (λ o. set (heap_waits h) code (lowered g.K.Cost.kind.below o key)) (sym old);
    }
