use Rattle.std.proofs.Common.{ℕ, List, ◌++◌, ◌∙◌, ap, append_assoc}
use Rattle.std.specs.Prelude.{codes}
use Rattle.cli.proofs.fault.add_no_peer_of.Goals as goal

pub returns : goal.returns
returns c =
    let old = c.args.line.now.items in
    let path = c.args.path.now in
    let one = c.extend_from_slice.new.self.items in
    let is = codes " is no peer of " in
    let cure = codes "; name one of its peers, or add --all for a name that is none\n" in
    let second = c.in_ok-extend_from_slice-2.ensures.items ∙ ap (λ (text : List ℕ). one ++ text) c.as_bytes.ensures.value in
    let both =
    second ∙ (ap (λ (text : List ℕ). text ++ path) c.in_ok-extend_from_slice.ensures.items ∙ append_assoc old is path) in
    c.in_ok-extend_from_slice-3.ensures.items
    ∙ (ap (λ (text : List ℕ). text ++ cure) both ∙ append_assoc old (is ++ path) cure)
