-- The password is what follows the command.
use Rattle.std.proofs.Common.{ap, ◌∙◌, arith}
use Rattle.std.proofs.Common.{drop, take, ◌-◌, ◌+◌}
use Rattle.login.specs.Exchange.{password_in}
use Rattle.login.proofs.Exchanges.{password-is}
use Rattle.login.proofs.login.Login.password.Goals as goal

pub returns : goal.returns
returns c =
    ap (λ all. take (c.len.result - 2 - (c.self.inside.user_len + 14)) (drop (c.self.inside.user_len + 14) all))
    c.deref.ensures.value
    ∙ (password-is c.self.inside.commands.items c.self.inside.user_len c.len.result (omega arith)
    ∙ ap password_in c.self.view_is)
