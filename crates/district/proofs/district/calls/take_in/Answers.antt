use Rattle.std.proofs.Common.{◌≡◌, ◌++◌, ◌∷◌, [], length, sym, ap, ◌∙◌, subst, arith}
use Rattle.std.proofs.lemmas.List.{length_push}
use Rattle.district.proofs.Outlets.{Put, put_whole, refilled}
use Rattle.district.proofs.district.calls.take_in.Goals as goal

pub returns : goal.returns
returns c =
    let os = c.args.outlets.now.items in
    let j = c.args.outlet in
    let n = c.len-n.result in
    let row = c.as_mut_slice.result.now in
    let row' = c.put_in.new.row in
    let same : length row' ≡ length row = c.put_in.auto.row in
    let is : row ≡ os ++ j ∷ [] = c.as_mut_slice.ensures.value ∙ c.push.ensures.items in
    let long = length_push os j in
    let at = c.requires in
    let put : Put row row' n c.args.at j = record {
      fit = omega (arith, at, c.len-n.ensures.value);
      room = omega (arith, ap length is, long, c.len-n.ensures.value);
      same = same;
      below = c.put_in.ensures.below;
      here = c.put_in.ensures.here;
      above = c.put_in.ensures.above;
    } in
    refilled _ _ row' (omega (arith, same, ap length is, long, c.push.ensures.len, c.len-n.ensures.value))
    ∙ put_whole os row' n c.args.at j (c.len-n.ensures.value) (subst (λ xs. Put xs row' n c.args.at j) is put)
