-- A text keeps the rules up to one line number.
use Rattle.std.proofs.Common.{◌≡◌, ◌≢◌, ◌+◌, ℕ, List, [], ◌∷◌, ◌++◌, length, suc, inl, inr, refl, sym, subst, ap}
use Rattle.std.proofs.Common.{◌∙◌, append-nil, append_assoc}
use Rattle.std.specs.Prelude.{◌⊎◌}
use Rattle.std.specs.List.{All, AllZip}
use Rattle.std.proofs.lemmas.List.Elements.{All-head, All-tail}
use Rattle.funnel.specs.Line.{without_cr}
use Rattle.funnel.specs.Stream.{BeginsWithLine, IsUnended, ended}
use Rattle.funnel.specs.StreamLaws.{ended_first, first_line_once, whole_line_ends}
use Rattle.drill_script.specs.Line.{SentenceView, Declares, Gives}
use Rattle.drill_script.specs.Script.{IsFirstBroken, IsWhy, KeepsOrder, KeepsRules, LineSays, MayFollow, Reads}
use Rattle.drill_script.specs.declared.fault.BrokenRule.{BrokenRule}
use Rattle.drill_script.specs.declared.fault.BrokenRule.TheVariants.{NoStep, NoPeer, PeerBehindStep, DeclaredTwice, NoTape}
use Rattle.drill_script.specs.declared.fault.BrokenRule.TheVariants.{TapeBehindStep, NoPeerOfTape, TapeTwice, Unended}
use Rattle.drill_script.proofs.Once.{says_once}

-- the first line that is left may not follow these sentences, and something is left
pub record Blocks (before : List SentenceView) (left : List ℕ) : Type 0 where
  pub some : left ≢ []
  pub none : (line behind : List ℕ) → BeginsWithLine left line behind → (said : SentenceView) →
      LineSays line said → MayFollow before said → ⊥

line_is_some : (line behind : List ℕ) → line ++ 10 ∷ behind ≡ [] → ⊥
line_is_some [] behind e = cc
line_is_some (o ∷ line) behind e = cc

begun_is_some : (left line behind : List ℕ) → BeginsWithLine left line behind → left ≢ []
begun_is_some left line behind begins none = line_is_some line behind (sym begins.0 ∙ none)

-- the first line is the same
same_line : (left l m x y : List ℕ) → BeginsWithLine left l x → BeginsWithLine left m y → l ≡ m
same_line left l m x y p q = (first_line_once l m x y p.1 q.1 (sym p.0 ∙ q.0)).0

moved : (left l m x y : List ℕ) (said : SentenceView) → BeginsWithLine left l x → BeginsWithLine left m y →
    LineSays l said → LineSays m said
moved left l m x y said p q says = subst (λ (k : List ℕ). LineSays k said) (same_line left l m x y p q) says

-- a reason blocks
why_blocks : (before : List SentenceView) (left : List ℕ) (reason : BrokenRule) → IsWhy before left reason →
    Blocks before left
why_blocks before left NoStep why = record {
  some = begun_is_some left why.0 why.1 why.2;
  none = λ line behind begins said says may. why.3.2 said (moved left line why.0 behind why.1 said begins why.2 says);
}
why_blocks before left NoPeer why = record {
  some = begun_is_some left why.0 why.1 why.2;
  none = λ line behind begins said says may. why.3.1 said (moved left line why.0 behind why.1 said begins why.2 says);
}
why_blocks before left PeerBehindStep why = record {
  some = begun_is_some left why.0 why.1 why.2;
  none = λ line behind begins said says may.
      let same =
      says_once (without_cr why.0) said (Declares why.3.0)
      (moved left line why.0 behind why.1 said begins why.2 says) why.3.1 in
      let follows : MayFollow before (Declares why.3.0) = subst (MayFollow before) same may in
      why.3.2 follows.0;
}
why_blocks before left DeclaredTwice why = record {
  some = begun_is_some left why.0 why.1 why.2;
  none = λ line behind begins said says may.
      let same =
      says_once (without_cr why.0) said (Declares why.3.0)
      (moved left line why.0 behind why.1 said begins why.2 says) why.3.1 in
      let follows : MayFollow before (Declares why.3.0) = subst (MayFollow before) same may in
      follows.1 why.3.3;
}
why_blocks before left NoTape why = record {
  some = begun_is_some left why.0 why.1 why.2;
  none = λ line behind begins said says may. why.3.1 said (moved left line why.0 behind why.1 said begins why.2 says);
}
why_blocks before left TapeBehindStep why = record {
  some = begun_is_some left why.0 why.1 why.2;
  none = λ line behind begins said says may.
      let same =
      says_once (without_cr why.0) said (Gives why.3.0 why.3.1)
      (moved left line why.0 behind why.1 said begins why.2 says) why.3.2 in
      let follows : MayFollow before (Gives why.3.0 why.3.1) = subst (MayFollow before) same may in
      why.3.3 follows.0;
}
why_blocks before left NoPeerOfTape why = record {
  some = begun_is_some left why.0 why.1 why.2;
  none = λ line behind begins said says may.
      let same =
      says_once (without_cr why.0) said (Gives why.3.0 why.3.1)
      (moved left line why.0 behind why.1 said begins why.2 says) why.3.2 in
      let follows : MayFollow before (Gives why.3.0 why.3.1) = subst (MayFollow before) same may in
      why.3.4 follows.1;
}
why_blocks before left TapeTwice why = record {
  some = begun_is_some left why.0 why.1 why.2;
  none = λ line behind begins said says may.
      let same =
      says_once (without_cr why.0) said (Gives why.3.0 why.3.1)
      (moved left line why.0 behind why.1 said begins why.2 says) why.3.2 in
      let follows : MayFollow before (Gives why.3.0 why.3.1) = subst (MayFollow before) same may in
      why.3.5 follows.2;
}
why_blocks before left Unended why = record {
  some = why.0;
  none = λ line behind begins said says may. whole_line_ends line behind (subst IsUnended begins.0 why.1);
}

-- some lines that say sentences, in their order after others
pub record Keeps (before : List SentenceView) (lines : List (List ℕ)) (sentences : List SentenceView) : Type 0 where
  pub each : All IsUnended lines
  pub says : AllZip LineSays lines sentences
  pub order : KeepsOrder before sentences

-- a prefix goes on after the line number at which the other one ends
goes_on : (before : List SentenceView) (line : List ℕ) (lines : List (List ℕ)) (said : SentenceView)
    (sentences : List SentenceView) (x y : List ℕ) →
    Keeps before (line ∷ lines) (said ∷ sentences) → x ≡ ended (line ∷ lines) ++ y → Blocks before x → ⊥
goes_on before line lines said sentences x y keeps e blocks =
    blocks.none line (ended lines ++ y) (e ∙ ended_first line lines y, All-head IsUnended line lines keeps.each)
    said keeps.says.0 keeps.order.0

-- two prefixes of one text: the first is blocked, and the other is blocked or is the whole text
ends_once : (f g : List (List ℕ)) (a b before : List SentenceView) (x y : List ℕ) → Keeps before f a →
    Keeps before g b →
    ended f ++ x ≡ ended g ++ y → Blocks (before ++ a) x → (y ≡ []) ⊎ Blocks (before ++ b) y →
    (length a ≡ length b) × (y ≢ [])
ends_once [] [] [] [] before x y p q e blocks end = (refl, λ none. blocks.some (e ∙ none))
ends_once [] [] (s ∷ a) b before x y p q e blocks end = absurd p.says
ends_once [] [] [] (t ∷ b) before x y p q e blocks end = absurd q.says
ends_once [] (m ∷ g) (s ∷ a) b before x y p q e blocks end = absurd p.says
ends_once [] (m ∷ g) [] [] before x y p q e blocks end = absurd q.says
ends_once [] (m ∷ g) [] (t ∷ b) before x y p q e blocks end =
    absurd (goes_on before m g t b x y q e (subst (λ (s : List SentenceView). Blocks s x) (append-nil before) blocks))
ends_once (l ∷ f) [] [] b before x y p q e blocks end = absurd p.says
ends_once (l ∷ f) [] (s ∷ a) (t ∷ b) before x y p q e blocks end = absurd q.says
ends_once (l ∷ f) [] (s ∷ a) [] before x y p q e blocks (inl none) =
    let never : l ++ 10 ∷ (ended f ++ x) ≡ [] = sym (ended_first l f x) ∙ e ∙ none in
    absurd (line_is_some l (ended f ++ x) never)
ends_once (l ∷ f) [] (s ∷ a) [] before x y p q e blocks (inr blocked) =
    absurd (goes_on before l f s a y x p (sym e)
    (subst (λ (r : List SentenceView). Blocks r y) (append-nil before) blocked))
ends_once (l ∷ f) (m ∷ g) [] b before x y p q e blocks end = absurd p.says
ends_once (l ∷ f) (m ∷ g) (s ∷ a) [] before x y p q e blocks end = absurd q.says
ends_once (l ∷ f) (m ∷ g) (s ∷ a) (t ∷ b) before x y p q e blocks end =
    let both : l ++ 10 ∷ (ended f ++ x) ≡ m ++ 10 ∷ (ended g ++ y) =
    sym (ended_first l f x) ∙ e ∙ ended_first m g y in
    let cut =
    first_line_once l m (ended f ++ x) (ended g ++ y) (All-head IsUnended l f p.each)
    (All-head IsUnended m g q.each) both in
    let same : s ≡ t = says_once (without_cr m) s t (subst (λ (k : List ℕ). LineSays k s) cut.0 p.says.0) q.says.0 in
    let mine : Keeps (before ++ s ∷ []) f a =
    record { each = All-tail IsUnended l f p.each; says = p.says.1; order = p.order.1 } in
    let others : Keeps (before ++ s ∷ []) g b =
    record {
      each = All-tail IsUnended m g q.each;
      says = q.says.1;
      order =
          subst (λ (k : SentenceView). KeepsOrder (before ++ k ∷ []) b) (sym same) q.order.1;
    } in
    let first : Blocks ((before ++ s ∷ []) ++ a) x =
    subst (λ (k : List SentenceView). Blocks k x) (sym (append_assoc before (s ∷ []) a)) blocks in
    let rest : (before ++ t ∷ b) ≡ ((before ++ s ∷ []) ++ b) =
    ap (λ (k : SentenceView). before ++ k ∷ b) (sym same) ∙ sym (append_assoc before (s ∷ []) b) in
    let once =
    ends_once f g a b (before ++ s ∷ []) x y mine others cut.1 first
    (subst (λ (k : List SentenceView). (y ≡ []) ⊎ Blocks k y) rest end) in
    (ap suc once.0, once.1)

keeps_of : (text : List ℕ) (sentences : List SentenceView) (rest : List ℕ) → (r : Reads text sentences rest) →
    Keeps [] r.lines sentences
keeps_of text sentences rest r = record { each = r.each; says = r.says; order = r.order }

-- a text that keeps the rules has no broken line
pub never : (text : List ℕ) (line_number : ℕ) → KeepsRules text → IsFirstBroken text line_number → ⊥
never text line_number good broken =
    let b = broken.1 in
    let once =
    ends_once b.reads.lines good.1.lines b.sentences good.0 [] b.left []
    (keeps_of text b.sentences b.left b.reads) (keeps_of text good.0 [] good.1)
    (sym b.reads.whole ∙ good.1.whole) (why_blocks b.sentences b.left broken.0 b.why) (inl refl) in
    once.1 refl

-- a text has one first broken line
pub once : (text : List ℕ) (one other : ℕ) → IsFirstBroken text one → IsFirstBroken text other → one ≡ other
once text one other p q =
    let a = p.1 in
    let b = q.1 in
    let same =
    ends_once a.reads.lines b.reads.lines a.sentences b.sentences [] a.left b.left
    (keeps_of text a.sentences a.left a.reads) (keeps_of text b.sentences b.left b.reads)
    (sym a.reads.whole ∙ b.reads.whole) (why_blocks a.sentences a.left p.0 a.why)
    (inr (why_blocks b.sentences b.left q.0 b.why)) in
    a.at ∙ ap (λ n. n + 1) same.0 ∙ sym b.at
