-- The good lines of a text, read one after another.
use Rattle.std.proofs.Common.{◌≡◌, ℕ, ◌+◌, ◌<◌, ◌≤◌, List, [], ◌∷◌, ◌++◌, length, map}
use Rattle.std.proofs.Common.{refl, sym, ap, ◌∙◌, subst, inl, inr, arith}
use Rattle.std.proofs.lemmas.List.{length-map, length-take-le, length_push, map_push, take_all}
use Rattle.std.proofs.lemmas.List.Elements.{All-nil, All-push}
use Rattle.std.specs.List.{All}
use Rattle.funnel.specs.Line.{HasFault, IsBacklogLine, longest_line}
use Rattle.funnel.specs.Stream.{BeginsWithLine, IsUnended, clipped, ended}
use Rattle.funnel.specs.StreamLaws.{ended_push}
use Rattle.funnel.specs.declared.line.LineFault.{LineFault}
use Rattle.funnel.specs.declared.line.LineFault.TheVariants.{NoToken, BadToken, BadId, TooLong}
use Rattle.funnel.specs.declared.line.LineFault.TheVariants.{NoMemory as NoLineMemory}
use Rattle.world_core.specs.Imports.{AreGood, Good, HasGood, Is_good, Is_malformed, None_read}
use Rattle.world_core.specs.Importing.{Gains}

-- a line that is not too long is kept whole
whole_kept : (line : List ℕ) → length line ≤ longest_line → clipped line ≡ line
whole_kept line short = take_all (longest_line + 1) line (omega (arith, short))

-- of any other, enough is kept to be still too long
long_kept : (line : List ℕ) → longest_line < length line → longest_line < length (clipped line)
long_kept line long =
    let is : length (clipped line) ≡ longest_line + 1 =
    length-take-le (longest_line + 1) line (omega (arith, long)) in
    omega (arith, is)

fault_kept : (line : List ℕ) (fault : LineFault) → HasFault line fault → HasFault (clipped line) fault
fault_kept line TooLong has = long_kept line has
fault_kept line NoToken has = subst (λ (l : List ℕ). HasFault l NoToken) (sym (whole_kept line has.0)) has
fault_kept line BadToken has = subst (λ (l : List ℕ). HasFault l BadToken) (sym (whole_kept line has.0)) has
fault_kept line BadId has = subst (λ (l : List ℕ). HasFault l BadId) (sym (whole_kept line has.0)) has
fault_kept line NoLineMemory has = tt

-- these lines come first in the text, and these of them are good
pub record HasListed (text rest : List ℕ) (number : ℕ) (good : List Good) : Type 0 where
  pub lines : List (List ℕ)
  pub whole : text ≡ ended lines ++ rest
  pub each : All IsUnended lines
  pub are : AreGood (map clipped lines) good
  pub counted : number ≡ length lines

pub listed_none : (text : List ℕ) → HasListed text text 0 []
listed_none text =
    record { lines = []; whole = refl; each = All-nil IsUnended; are = None_read; counted = refl }

good_more : (lines : List (List ℕ)) (line : List ℕ) (number : ℕ) (old new : List Good)
    → AreGood (map clipped lines) old → number ≡ length lines + 1 → Gains number line old new
    → AreGood (map clipped lines ++ clipped line ∷ []) new
good_more lines line number old new are counted (inl (token, id, reads, is)) =
    let long : length (map clipped lines) ≡ length lines = length-map lines clipped in
    let same : length (map clipped lines) + 1 ≡ number = omega (arith, long, counted) in
    let kept : IsBacklogLine (clipped line) token id =
    subst (λ (l : List ℕ). IsBacklogLine l token id) (sym (whole_kept line reads.short)) reads in
    let one = Is_good (map clipped lines) old (clipped line) token id are kept in
    subst (AreGood (map clipped lines ++ clipped line ∷ []))
    (ap (λ (n : ℕ). old ++ (n, (token, id)) ∷ []) same ∙ sym is) one
good_more lines line number old new are counted (inr (fault, has, other, is)) =
    subst (AreGood (map clipped lines ++ clipped line ∷ [])) (sym is)
    (Is_malformed (map clipped lines) old (clipped line) fault are (fault_kept line fault has) other)

pub listed_more : (text rest line behind : List ℕ) (number next : ℕ) (old new : List Good)
    → HasListed text rest number old → BeginsWithLine rest line behind → next ≡ number + 1 → Gains next line old new
    → HasListed text behind next new
listed_more text rest line behind number next old new has begins raised gains =
    let c = has.counted in
    record {
      lines = has.lines ++ line ∷ [];
      whole = ended_push text rest line behind has.lines has.whole begins.0;
      each = All-push IsUnended has.lines line has.each begins.1;
      are = subst (λ (ls : List (List ℕ)). AreGood ls new) (sym (map_push clipped has.lines line))
          (good_more has.lines line next old new has.are (omega (arith, raised, c)) gains);
      counted = raised ∙ ap (λ (n : ℕ). n + 1) c ∙ sym (length_push has.lines line);
    }

-- nothing is left but a rest without LF
pub listed_all : (text rest : List ℕ) (number : ℕ) (good : List Good) → HasListed text rest number good
    → IsUnended rest → HasGood text good
listed_all text rest number good has last = record {
  lines = has.lines;
  rest = rest;
  splits = record { whole = has.whole; each = has.each; last = last };
  are = has.are;
}
