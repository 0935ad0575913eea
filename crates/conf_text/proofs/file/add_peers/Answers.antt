use Rattle.std.proofs.Common.{◌≡◌, ℕ, List, ◌++◌, subst, sym}
use Rattle.conf_text.proofs.Adding.{each-mapped}
use Rattle.conf_text.proofs.file.add_peers.Goals as goal

pub returns : goal.returns
returns c =
    subst (λ (t : List ℕ). c.add_each.new.out.items ≡ c.args.out.now.items ++ t) (sym (each-mapped c.args.peers.now))
    c.in_ok-add_each.ensures
