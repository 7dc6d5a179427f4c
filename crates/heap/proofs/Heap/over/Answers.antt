use Rattle.std.proofs.Common.{◌≡◌, replicate, None, refl, ap, ◌∙◌, arith}
use Rattle.heap.specs.Heaps.{codes_held, heap_waits, waits_at}
use Rattle.heap.proofs.Stands.{none_at, nothing_made, empty_good}
use Rattle.heap.proofs.Heap.over.Goals as goal

pub returns : goal.returns
unfolding heap_waits
returns g c =
    let keys = c.args.keys.now in
    let codes = c.args.codes.now in
    let places = c.args.places.now in
    let cap = c.codes_held-cap.result in
    let is : cap ≡ codes_held keys codes places = omega arith in
    record {
      good = empty_good _ _ refl;
      lends = refl;
      waits = nothing_made (waits_at 0 keys codes places) cap None (λ x lt. none_at keys codes places x) ∙ ap (λ n. replicate n None) is;
    }
