use Rattle.theory.proofs.DreyfusWagner.{is_dreyfus_wagner, one_dreyfus_wagner}
use Rattle.theory.proofs.is_dreyfus_wagner.Goals as goal

pub returns : goal.returns
returns g c = λ l v I c h.
    (let x = is_dreyfus_wagner g.met.K.Cost.laws l v I c h in (x, λ d y. one_dreyfus_wagner g.met.K.Cost.laws l v I c d x y))
