use Rattle.std.proofs.Common.{◌≡◌, ◌*◌, min, map, vec_items, sym, refl, ap, ◌∙◌, rules}
use Rattle.std.proofs.lemmas.List.{with_items_is}
use Rattle.requests.specs.Requests.{asked_of, labels_for}
use Rattle.sheets.proofs.Trying.{moved, told}
use Rattle.sheets.proofs.sheet.Sheet.try_with.Goals as goal

pub returns : goal.returns
returns g c =
    let s = c.args.self.now in
    let tools = c.args.tools in
    let turns = c.in_ok-turns.turns in
    let left = c.try_turns.new.turns in
    record {
      with_tools = refl;
      asked = vec_items turns;
      each = c.in_ok-turns.ensures ∙ ap (map (asked_of tools)) c.deref.ensures.value;
      tried =
          told g.K.Cost.kind tools _ _ s.junctions (min s.capacity 4097) (vec_items turns) _ c.in_ok-made.made c.tried-turns.result c.tried-turns.ensures
          (moved g.K.Cost.kind tools s.junctions c.in_ok-made.made c.labels_for.result (labels_for (min s.junctions 1024) (vec_items s.requests)) (c.min.result * 12) (min s.junctions 1024 * 12)
          c.places.result (min s.capacity 4097) c.deref_mut.result.now (vec_items turns) left _ (c.labels_for.ensures ∙ ap (labels_for (min s.junctions 1024)) c.deref-2.ensures.value) (ap (λ n. n * 12) c.min.ensures)
          c.places.ensures c.deref_mut.ensures.value (sym (with_items_is turns left (c.try_turns.auto.turns ∙ search rules))) c.in_ok-made.ensures);
    }
