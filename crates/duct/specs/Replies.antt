-- What a line gets. Assumes nothing.
use Rattle.std.specs.Prelude.{◌≡◌, ℕ, Some, None, Ok, Err, Option}
use Rattle.text.specs.declared.command.Command.{Command}
use Rattle.text.specs.declared.command.Command.TheVariants.{Nothing, District, Call}
use Rattle.duct.specs.declared.answer.Answer.{Answer}
use Rattle.duct.specs.declared.answer.Answer.TheVariants.{Made, Refused}
use Rattle.duct.specs.declared.site.Site.{Site}
use Rattle.duct.specs.declared.session.Reply.{Reply}
use Rattle.duct.specs.declared.session.Reply.TheVariants.{Silence, Said, NoDistrict, NotUnderstood}
use Rattle.duct.specs.Sites.{Started, Answered}

-- a new district was asked for: it stands at hand, or none does
abbrev pub Opened : ℕ → ℕ → Answer → Option Site → Type 0
Opened n capacity r (Some s) = (r ≡ Made n capacity) × Started n capacity (Ok s)
Opened n capacity r None = (why : _) × (r ≡ Refused why) × Started n capacity (Err why)

-- what a line gets by what it says, with the district at hand before and after it
abbrev pub Replied : Option Command → Option Site → Reply → Option Site → Type 0
Replied None s p t = (p ≡ NotUnderstood) × (t ≡ s)
Replied (Some Nothing) s p t = (p ≡ Silence) × (t ≡ s)
Replied (Some (District n capacity)) s p t = (r : Answer) × (p ≡ Said r) × Opened n capacity r t
Replied (Some (Call call)) None p t = (p ≡ NoDistrict) × (t ≡ None)
Replied (Some (Call call)) (Some s) p t = (r : Answer) × (u : Site) × (p ≡ Said r) × (t ≡ Some u) × Answered s call r u
