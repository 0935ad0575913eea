use Rattle.std.proofs.Common.{◌≡◌, ℕ, List, ◌++◌, Option, subst}
use Rattle.std.specs.Prelude.{codes}
use Rattle.conf_text.specs.ConfText.{path_text}
use Rattle.conf_text.proofs.file.add_login.Goals as goal

pub returns : goal.returns
returns c =
    subst
    (λ (p : Option (List ℕ)). c.add_path.new.out.items ≡ c.args.out.now.items ++ path_text (codes "authinfo-file") p)
    c.authinfo_file.ensures c.in_ok-add_path.ensures
