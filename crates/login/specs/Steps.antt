-- What each answer makes of a login (RFC 3977, section 5.1; RFC 4643, section 2.3).
use Rattle.std.specs.Prelude.{◌==◌, ◌||◌, ℕ, if◌then◌else◌}
use Rattle.login.specs.declared.step.LoginStep.{LoginStep}
use Rattle.login.specs.declared.step.LoginStep.TheVariants.{Greeting, User, Password}
use Rattle.login.specs.declared.step.Meaning.{Meaning}
use Rattle.login.specs.declared.step.Meaning.TheVariants.{GoesOn, Succeeds, Fails}

-- The greeting has to be 200 or 201. After USER comes 381, which asks for the password, or 281. After PASS comes 281.
abbrev pub meaning_of : LoginStep → ℕ → Meaning
meaning_of Greeting code = if code == 200 || code == 201 then GoesOn else Fails
meaning_of User code = if code == 381 then GoesOn else (if code == 281 then Succeeds else Fails)
meaning_of Password code = if code == 281 then Succeeds else Fails
