use Rattle.std.proofs.Common.{arith, rules}
use Rattle.heap.proofs.Changes.{room_left, insert_found}
use Rattle.heap.proofs.Heap.append.Goals as goal

pub bounds-self-end : goal.bounds-self-end
bounds-self-end g c =
    let h = c.args.self.now in
    omega (arith, h.room.2, room_left h.codes.now h.places.now h.len h.cap c.args.code c.requires.inside h.room.3 h.room.2 h.found c.requires.waits)

pub overflow_add-self : goal.overflow_add-self
overflow_add-self g c =
    let h = c.args.self.now in
    let left = room_left h.codes.now h.places.now h.len h.cap c.args.code c.requires.inside h.room.3 h.room.2 h.found c.requires.waits in
    search rules

pub invariant_of-self-3 : goal.invariant_of-self-3
invariant_of-self-3 g c =
    let h = c.args.self.now in
    let left = room_left h.codes.now h.places.now h.len h.cap c.args.code c.requires.inside h.room.3 h.room.2 h.found c.requires.waits in
    record {
      room = search rules;
      within = omega (arith, left);
      found = insert_found h.codes.now h.places.now h.len h.cap c.args.code c.requires.inside h.room.3 h.room.2 h.found c.requires.waits;
    }
