-- Two readings of the same octets agree.
use Rattle.std.proofs.Common.{◌≡◌, ◌⊎◌, ℕ, Option, List, [], ◌∷◌, ◌++◌, length, take, sym, ◌∙◌, ap, refl, inl, inr, subst, append_assoc}
use Rattle.std.specs.List.{AllZip}
use Rattle.funnel.specs.Stream.{IsUnended, ended}
use Rattle.funnel.specs.StreamLaws.{ended_first, ended_push, first_line_once, whole_line_ends}
use Rattle.reply_reader.specs.Reply.{IsReplyLine}
use Rattle.reply_reader.specs.Stream.{BeginsWithNoReply, BeginsWithReply, Given, IsAnswer, IsFaulty, IsTooLong, Held, Reads, StandsFor, Broken, Working, after_feed}
use Rattle.reply_reader.specs.LineLaws.{line-once}

-- a reading of nothing
pub reads-nothing : Reads [] [] []
reads-nothing = record { lines = []; whole = refl; answers = tt }

-- the same reading of more octets
pub reads-fed : (fed unread piece : List ℕ) (given : List Given) → Reads fed given unread → Reads (fed ++ piece) given (unread ++ piece)
reads-fed fed unread piece given r = record {
  lines = r.lines;
  whole = ap (λ f. f ++ piece) r.whole ∙ append_assoc (ended r.lines) unread piece;
  answers = r.answers;
}

long-fed : (unread piece : List ℕ) → IsTooLong unread → IsTooLong (unread ++ piece)
long-fed unread piece (prefix, rest, parts, len, lacks) =
    (prefix, rest ++ piece, ap (λ u. u ++ piece) parts ∙ append_assoc prefix rest piece, len, lacks)

no-reply-fed : (unread piece : List ℕ) → BeginsWithNoReply unread → BeginsWithNoReply (unread ++ piece)
no-reply-fed unread piece (line, rest, parts, short, none) =
    (line, rest ++ piece, ap (λ u. u ++ piece) parts ∙ append_assoc line (10 ∷ rest) piece, short, none)

-- a fault stays where it is
pub faulty-fed : (unread piece : List ℕ) → IsFaulty unread → IsFaulty (unread ++ piece)
faulty-fed unread piece (inl long) = inl (long-fed unread piece long)
faulty-fed unread piece (inr none) = inr (no-reply-fed unread piece none)

answers-push : (lines : List (List ℕ)) (given : List Given) (line : List ℕ) (more : Given) → AllZip IsAnswer lines given → IsAnswer line more
    → AllZip IsAnswer (lines ++ line ∷ []) (given ++ more ∷ [])
answers-push [] [] line more all this = (this, tt)
answers-push [] (g ∷ given) line more all this = absurd all
answers-push (l ∷ lines) [] line more all this = absurd all
answers-push (l ∷ lines) (g ∷ given) line more all this = (all.0, answers-push lines given line more all.1 this)

-- a reading, with the reply that its unread octets begin with
pub reads-reply : (fed unread rest : List ℕ) (given : List Given) (more : Given) → Reads fed given unread → BeginsWithReply unread more rest → Reads fed (given ++ more ∷ []) rest
reads-reply fed unread rest given more r (line, parts, this) = record {
  lines = r.lines ++ line ∷ [];
  whole = ended_push fed unread line rest r.lines r.whole parts;
  answers = answers-push r.lines given line more r.answers this;
}

abbrev made : ℕ → Option (List ℕ) → List ℕ → Given
made code id text = record { code = code; id = id; text = text }

answer-once : (line line' : List ℕ) (a b : Given) → line ≡ line' → IsAnswer line a → IsAnswer line' b → a ≡ b
answer-once line line' a b e p q =
    let moved : IsReplyLine line b.code b.id b.text = subst (λ l. IsReplyLine l b.code b.id b.text) (sym e) q.1 in
    let same = line-once line a.code b.code a.id b.id a.text b.text p.1 moved in
    ap (λ code. made code a.id a.text) same.0 ∙ ap (λ id. made b.code id a.text) same.1 ∙ ap (λ text. made b.code b.id text) same.2

begin-step : (x y : Given) (a b : List Given) → x ≡ y → (a ≡ take (length a) b) ⊎ (b ≡ take (length b) a)
    → ((x ∷ a) ≡ take (length (x ∷ a)) (y ∷ b)) ⊎ ((y ∷ b) ≡ take (length (y ∷ b)) (x ∷ a))
begin-step x y a b e (inl f) = inl (cc)
begin-step x y a b e (inr f) = inr (cc)

-- the replies of one of two readings are the beginning of the other's
pub one-begins : (k l : List (List ℕ)) (a b : List Given) (u v : List ℕ) → AllZip IsAnswer k a → AllZip IsAnswer l b → ended k ++ u ≡ ended l ++ v
    → (a ≡ take (length a) b) ⊎ (b ≡ take (length b) a)
one-begins [] l [] b u v p q e = inl refl
one-begins [] l (x ∷ a) b u v p q e = absurd p
one-begins (line ∷ k) l [] b u v p q e = absurd p
one-begins (line ∷ k) [] (x ∷ a) [] u v p q e = inr refl
one-begins (line ∷ k) [] (x ∷ a) (y ∷ b) u v p q e = absurd q
one-begins (line ∷ k) (line' ∷ l) (x ∷ a) [] u v p q e = absurd q
one-begins (line ∷ k) (line' ∷ l) (x ∷ a) (y ∷ b) u v p q e =
    let cut = first_line_once line line' (ended k ++ u) (ended l ++ v) p.0.0.line q.0.0.line (sym (ended_first line k u) ∙ e ∙ ended_first line' l v) in
    begin-step x y a b (answer-once line line' x y cut.0 p.0 q.0) (one-begins k l a b u v p.1 q.1 cut.1)

-- two readings that leave no whole line are the same
pub both-same : (k l : List (List ℕ)) (a b : List Given) (u v : List ℕ) → AllZip IsAnswer k a → AllZip IsAnswer l b → IsUnended u → IsUnended v → ended k ++ u ≡ ended l ++ v
    → (a ≡ b) × (u ≡ v)
both-same [] [] [] [] u v p q s t e = (refl, e)
both-same [] [] [] (y ∷ b) u v p q s t e = absurd q
both-same [] l (x ∷ a) b u v p q s t e = absurd p
both-same [] (line ∷ l) [] [] u v p q s t e = absurd q
both-same [] (line ∷ l) [] (y ∷ b) u v p q s t e =
    absurd (whole_line_ends line (ended l ++ v) (subst (λ o. IsUnended o) (e ∙ ended_first line l v) s))
both-same (line ∷ k) l [] b u v p q s t e = absurd p
both-same (line ∷ k) [] (x ∷ a) b u v p q s t e =
    absurd (whole_line_ends line (ended k ++ u) (subst (λ o. IsUnended o) (sym e ∙ ended_first line k u) t))
both-same (line ∷ k) (line' ∷ l) (x ∷ a) [] u v p q s t e = absurd q
both-same (line ∷ k) (line' ∷ l) (x ∷ a) (y ∷ b) u v p q s t e =
    let cut = first_line_once line line' (ended k ++ u) (ended l ++ v) p.0.0.line q.0.0.line (sym (ended_first line k u) ∙ e ∙ ended_first line' l v) in
    let first : x ≡ y = answer-once line line' x y cut.0 p.0 q.0 in
    let rest = both-same k l a b u v p.1 q.1 s t cut.1 in
    let others : a ≡ b = rest.0 in
    (cc, rest.1)

-- a reader that was fed stands for what it was fed
pub fed-more : (old : Held) (piece : List ℕ) (fed : List ℕ) (given : List Given) → StandsFor old fed given → StandsFor (after_feed old piece) (fed ++ piece) given
fed-more (Working unread) piece fed given r = reads-fed fed unread piece given r
fed-more Broken piece fed given (unread, r, fault) = (unread ++ piece, reads-fed fed unread piece given r, faulty-fed unread piece fault)
