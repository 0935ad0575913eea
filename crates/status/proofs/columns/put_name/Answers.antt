use Rattle.std.proofs.Common.{◌≡◌, ◌-◌, ℕ, List, length, arith, subst}
use Rattle.std.specs.Io.KnownBytes.{Appends}
use Rattle.status.specs.Prefixes.{AppendsPrefix}
use Rattle.status.specs.Report.{spaces}
use Rattle.status.proofs.Parts.{both, prefix_after, prefix_before, on_err, on_err_map, on_ok_map}
use Rattle.status.proofs.columns.put_name.Goals as goal

pub returns-in_err-put-clause-prefix : goal.returns-in_err-put-clause-prefix
returns-in_err-put-clause-prefix g c =
    let contents = g.W.Write.contents in
    let name = c.args.name.now in
    let P : List ℕ → Type 0 = λ l. AppendsPrefix (contents c.args.out.now) (contents c.put.new.out) l in
    on_err c.from_residual.result (prefix_before _ _ name _
    (subst P c.bytes-octets.ensures.value c.in_err-put.ensures.prefix))

pub returns-clause-whole : goal.returns-clause-whole
returns-clause-whole g c =
    let contents = g.W.Write.contents in
    let name = c.args.name.now in
    let P : List ℕ → Type 0 = λ l. Appends (contents c.args.out.now) (contents c.put.new.out) l in
    let Q : ℕ → Type 0 = λ n. Appends (contents c.put.new.out) (contents c.put_spaces.new.out) (spaces n) in
    let e : c.saturating_sub.result ≡ c.args.width - length name = grind arith in
    on_ok_map c.put_spaces.result (λ h.
    both (contents c.args.out.now) (contents c.put.new.out) (contents c.put_spaces.new.out)
    name (spaces (c.args.width - length name))
    (subst P c.bytes-octets.ensures.value c.in_ok-put.ensures.whole) (subst Q e h)) c.put_spaces.ensures.whole

pub returns-clause-prefix : goal.returns-clause-prefix
returns-clause-prefix g c =
    let contents = g.W.Write.contents in
    let name = c.args.name.now in
    let P : List ℕ → Type 0 = λ l. Appends (contents c.args.out.now) (contents c.put.new.out) l in
    let Q : ℕ → Type 0 = λ n. AppendsPrefix (contents c.put.new.out) (contents c.put_spaces.new.out) (spaces n) in
    let e : c.saturating_sub.result ≡ c.args.width - length name = grind arith in
    on_err_map c.put_spaces.result (λ h.
    prefix_after (contents c.args.out.now) (contents c.put.new.out) (contents c.put_spaces.new.out)
    name (spaces (c.args.width - length name))
    (subst P c.bytes-octets.ensures.value c.in_ok-put.ensures.whole) (subst Q e h)) c.put_spaces.ensures.prefix
