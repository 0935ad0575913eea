use Rattle.std.proofs.Common.{◌≡◌, ◌+◌, ◌-◌, ℕ, List, decimal, length, arith, subst}
use Rattle.std.specs.Io.KnownBytes.{Appends}
use Rattle.status.specs.Prefixes.{AppendsPrefix}
use Rattle.status.specs.Report.{spaces}
use Rattle.status.proofs.Parts.{both, prefix_after, prefix_before, on_err, on_err_map, on_ok_map}
use Rattle.status.proofs.columns.put_number.Goals as goal

pub returns-in_err-put_spaces-clause-prefix : goal.returns-in_err-put_spaces-clause-prefix
returns-in_err-put_spaces-clause-prefix g c =
    let contents = g.W.Write.contents in
    let digits = decimal c.args.value in
    let P : ℕ → Type 0 = λ n. AppendsPrefix (contents c.args.out.now) (contents c.put_spaces.new.out) (spaces (n +
    1)) in
    let e : c.saturating_sub.result ≡ c.args.width - length digits = grind arith in
    on_err c.from_residual.result (
    prefix_before _ _ (spaces (c.args.width - length digits + 1)) digits (subst P e c.in_err-put_spaces.ensures.prefix))

pub returns-clause-whole : goal.returns-clause-whole
returns-clause-whole g c =
    let contents = g.W.Write.contents in
    let digits = decimal c.args.value in
    let P : ℕ → Type 0 = λ n. Appends (contents c.args.out.now) (contents c.put_spaces.new.out) (spaces (n + 1)) in
    let Q : List ℕ → Type 0 = λ l. Appends (contents c.put_spaces.new.out) (contents c.put.new.out) l in
    let e : c.saturating_sub.result ≡ c.args.width - length digits = grind arith in
    let t : c.as_bytes-digits.result.now ≡ digits = grind arith in
    on_ok_map c.put.result (λ h.
    both (contents c.args.out.now) (contents c.put_spaces.new.out) (contents c.put.new.out)
    (spaces (c.args.width - length digits + 1)) digits
    (subst P e c.in_ok-put_spaces.ensures.whole) (subst Q t h)) c.put.ensures.whole

pub returns-clause-prefix : goal.returns-clause-prefix
returns-clause-prefix g c =
    let contents = g.W.Write.contents in
    let digits = decimal c.args.value in
    let P : ℕ → Type 0 = λ n. Appends (contents c.args.out.now) (contents c.put_spaces.new.out) (spaces (n + 1)) in
    let Q : List ℕ → Type 0 = λ l. AppendsPrefix (contents c.put_spaces.new.out) (contents c.put.new.out) l in
    let e : c.saturating_sub.result ≡ c.args.width - length digits = grind arith in
    let t : c.as_bytes-digits.result.now ≡ digits = grind arith in
    on_err_map c.put.result (λ h.
    prefix_after (contents c.args.out.now) (contents c.put_spaces.new.out) (contents c.put.new.out)
    (spaces (c.args.width - length digits + 1)) digits
    (subst P e c.in_ok-put_spaces.ensures.whole) (subst Q t h)) c.put.ensures.prefix
