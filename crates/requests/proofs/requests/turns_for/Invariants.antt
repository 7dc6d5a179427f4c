use Rattle.std.proofs.Common.{◌≡◌, map, take, vec_items}
use Rattle.requests.specs.Requests.{shape, asked_of}
use Rattle.requests.proofs.requests.turns_for.Given as goal

abbrev pub invariant-loop-request : goal.invariant-loop-request
invariant-loop-request g l = map shape (vec_items l.turns) ≡ map (asked_of l.tools) (take l.request-index l.requests)
