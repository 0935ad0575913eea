-- A line without a code gives `NoCode`; a line with one fails only for want of memory.
use Rattle.std.proofs.Common.{◌≡◌, ℕ, List, Option, refl, inr, subst}
use Rattle.std.proofs.lemmas.Result.{err_from_is_err_and}
use Rattle.funnel.specs.Line.{without_cr}
use Rattle.reply_reader.specs.Reply.{BeginsWithCode, IsReplyLine}
use Rattle.reply_reader.specs.LineLaws.{line-of-code}
use Rattle.reply_reader.proofs.line.read_reply.Goals as goal

no-code : (line body : List ℕ) → body ≡ without_cr line → ((code : ℕ) (rest : List ℕ) → BeginsWithCode body code rest → ⊥) → (code : ℕ) (rest : List ℕ) → BeginsWithCode (without_cr line) code rest → ⊥
no-code line body is none = subst (λ b. (code : ℕ) (rest : List ℕ) → BeginsWithCode b code rest → ⊥) is none

reads : (line body : List ℕ) (code : ℕ) (rest : List ℕ) → body ≡ without_cr line → BeginsWithCode body code rest → (code : ℕ) × (id : Option (List ℕ)) × (text : List ℕ) × IsReplyLine line code id text
reads line body code rest is begins =
    let r = line-of-code line code rest (subst (λ b. BeginsWithCode b code rest) is begins) in (code, r.0, r.1, r.2)

pub returns-in_default-clause-no_code : goal.returns-in_default-clause-no_code
returns-in_default-clause-no_code c = (λ e. no-code c.args.line.now c.without_cr.result.now c.without_cr.ensures c.in_default.ensures.none, λ h. refl)

pub returns-in_err-id-clause-no_memory : goal.returns-in_err-id-clause-no_memory
returns-in_err-id-clause-no_memory c =
    let p = err_from_is_err_and c.from_residual.result c.from_residual.ensures.1 in
    rw (p.1, p.2) (inr (refl, reads c.args.line.now c.without_cr.result.now c.in-Some.coded.code c.in-Some.coded.rest.now c.without_cr.ensures c.in-Some.ensures.some))
