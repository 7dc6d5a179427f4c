use Rattle.std.proofs.Common.{arith, rules}
use Rattle.heap.proofs.Stands.{exchanged_found}
use Rattle.heap.proofs.Heap.swap.Goals as goal

pub invariant_of-self : goal.invariant_of-self
invariant_of-self g c =
    let h = c.args.self.now in
    record {
      room = search rules;
      within = h.within;
      found = exchanged_found h.codes.now h.places.now h.len h.cap c.args.i c.args.j c.requires.inside.0 c.requires.inside.1
          (omega (arith, h.within, h.room.2)) h.room.3 h.found c.exchange.new.codes c.exchange.new.places
          c.exchange.ensures.coded c.exchange.ensures.placed;
    }
