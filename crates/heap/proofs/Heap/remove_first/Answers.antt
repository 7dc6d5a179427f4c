use Rattle.std.proofs.Common.{◌≤◌, length, refl, ◌∙◌, arith}
use Rattle.heap.specs.Heaps.{heap_waits}
use Rattle.heap.proofs.Changes.{remove_made}
use Rattle.heap.proofs.First.{taken_first, taken_none}
use Rattle.heap.proofs.Made.{made_waits}
use Rattle.heap.proofs.Heap.remove_first.Goals as goal

pub returns-then-self-gt0 : goal.returns-then-self-gt0
unfolding heap_waits
returns-then-self-gt0 g c =
    let h = c.args.self.now in
    let codes = h.codes.now in
    let places = h.places.now in
    let made = c.last_to_first.ensures in
    let pos = c.if-self-gt0.true in
    let coded : h.len ≤ length codes = omega (arith, h.within, h.room.2) in
    record {
      good = c.sink.ensures.good;
      lends = c.sink.ensures.kept.lends ∙ made.lends;
      waits = λ r least.
          c.sink.ensures.kept.waits ∙
          made_waits made ∙
          remove_made codes places h.len h.cap pos h.room.3 coded h.found h.keys.now ∙
          taken_first g.met.K.Cost.laws h c.requires pos r least;
    }

pub returns-else-self-gt0 : goal.returns-else-self-gt0
returns-else-self-gt0 g c = record {
  good = c.requires;
  lends = refl;
  waits = λ r least. taken_none g.K.Cost.kind.below c.args.self.now c.if-self-gt0.false r least;
}
