use Rattle.std.proofs.Common.{◌-◌, length, take, drop, sym, ap, ◌∙◌, subst}
use Rattle.district.specs.Model.{layout_of}
use Rattle.labelling.specs.declared.kinds.Size.{Size}
use Rattle.labelling.specs.Starts.{Within}
use Rattle.labelling.specs.Questions.{room_answer}
use Rattle.labelling.specs.Desks.{places_on}
use Rattle.labelling.proofs.Viewing.{others_are, others_within, asked_room}
use Rattle.labelling.proofs.desk.Desk.label_view.Goals as goal

pub label_from-requires-clause-junctions : goal.label_from-requires-clause-junctions
label_from-requires-clause-junctions g c =
    let v = c.args.view.now in
    let l = layout_of v in
    let places = places_on c.args.self.now in
    let capacity = length (g.Q.Queue.waiting c.args.self.now.queue) in
    let asked = c.in_ok-size.ensures ∙ ap (λ n. room_answer l n c.capacity.result) c.min-places.ensures ∙ ap (room_answer l places) c.capacity.ensures in
    let room = asked_room l places capacity c.in_ok-size.size asked in
    subst (λ (s : Size). Within s.junctions (take (length v.outlets.now - 1) (drop 1 v.outlets.now))) (sym room.is)
    (subst (Within v.junctions) (sym (others_are v.outlets.now)) (others_within v.junctions v.outlets.now v.inside))
