use Rattle.std.proofs.Common.{◌≡◌, Some, Option, sym, refl, ap, ◌∙◌, subst}
use Rattle.text.specs.declared.command.Command.{Command}
use Rattle.text.specs.declared.command.Command.TheVariants.{Call}
use Rattle.duct.specs.declared.answer.Answer.{Answer}
use Rattle.duct.specs.declared.session.Reply.TheVariants.{Said}
use Rattle.duct.specs.declared.site.Site.{Site}
use Rattle.duct.specs.Replies.{Replied}
use Rattle.duct.specs.Sites.{Answered}
use Rattle.duct.proofs.session.Session.reply.Goals as goal

called : (o : Option Command) (at : Option Site) (command : Command) (call : _) (s : Site) (r : Answer) (t : Site) → Some command ≡ o → command ≡ Call call → at ≡ Some s → Answered s call r t → Replied o at (Said r) (Some t)
called o at command call s r t says calls is h =
    subst (λ x. Replied x at (Said r) (Some t)) (ap Some (sym calls) ∙ says) (subst (λ x. Replied (Some (Call call)) x (Said r) (Some t)) (sym is) (r, t, refl, refl, h))

pub returns-in_ok-answer-in-Some-site : goal.returns-in_ok-answer-in-Some-site
returns-in_ok-answer-in-Some-site c = called _ _ _ _ _ _ _ c.in-Some.ensures c.in-Call.is c.in-Some-site.is c.in_ok-answer-in-Some-site.ensures
