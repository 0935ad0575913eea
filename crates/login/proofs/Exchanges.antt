-- What an octet makes of what a login stands for.
use Rattle.std.proofs.Common.{◌≡◌, ◌≢◌, ◌+◌, ◌⊎◌, ◌-◌, ℕ, List, Result, Ok, Err, length-drop, [], ◌∷◌, ◌++◌, length}
use Rattle.std.proofs.Common.{take, drop, refl, sym, ap, ◌∙◌, subst, arith, inl, inr}
use Rattle.std.proofs.Common.{append_assoc, cond, true, false, eqb, Bool, ◌||◌}
use Rattle.std.specs.Prelude.{OnOk, if◌then◌else◌, is_ok}
use Rattle.std.proofs.lemmas.List.{append-nil, drop-drop, take-append-drop, take_all}
use Rattle.std.proofs.lemmas.Bool.{eqb-true}
use Rattle.funnel.specs.Line.{without_cr}
use Rattle.funnel.specs.Stream.{ended}
use Rattle.funnel.specs.StreamLaws.{ended_push}
use Rattle.reply_reader.specs.Reply.{BeginsWithCode, IsNoReply}
use Rattle.reply_reader.specs.Stream.{IsShort, longest_reply}
use Rattle.login.specs.Exchange.{HasCode, Held, IsGreeting, KeepsCommands, Refuses, Stands, StandsFor}
use Rattle.login.specs.Steps.{meaning_of}
use Rattle.login.specs.declared.step.LoginStep.{LoginStep}
use Rattle.login.specs.declared.step.LoginStep.TheVariants.{Greeting, User, Password}
use Rattle.login.specs.declared.step.LoginEnd.{LoginEnd}
use Rattle.login.specs.declared.step.LoginEnd.TheVariants.{Open, Accepted, Refused}
use Rattle.login.specs.declared.step.Refusal.{Refusal}
use Rattle.login.specs.declared.step.Refusal.TheVariants.{Answer, NoCode, TooLong, Timeout, NoMemory}
use Rattle.login.specs.declared.step.Meaning.TheVariants.{Fails, GoesOn, Succeeds}

-- what came before, and the octet behind the line
behind : (before line rest came : List ℕ) (octet : ℕ) → came ≡ before ++ (line ++ rest) → rest ≡ []
    → came ++ octet ∷ [] ≡ before ++ (line ++ octet ∷ [])
behind before line rest came octet whole none =
    let plain : came ≡ before ++ line =
    whole ∙ ap (λ r. before ++ (line ++ r)) none ∙ ap (λ l. before ++ l) (append-nil line) in
    ap (λ c. c ++ octet ∷ []) plain ∙ append_assoc before line (octet ∷ [])

pub pushed : (step : LoginStep) (line handed came : List ℕ) (octet : ℕ) → Stands step Open line handed came
    → Stands step Open (line ++ octet ∷ []) handed (came ++ octet ∷ [])
pushed step line handed came octet s = record {
  lines = s.lines;
  rest = [];
  greeting = s.greeting;
  whole = behind (ended s.lines) line s.rest came octet s.whole s.judged.0
      ∙ ap (λ l. ended s.lines ++ l) (sym (append-nil (line ++ octet ∷ [])));
  before = s.before;
  judged = (refl, s.judged.1);
}

pub too-long : (step : LoginStep) (line handed came : List ℕ) (octet : ℕ) → octet ≢ 10
    → length line + 1 ≡ longest_reply → Stands step Open line handed came
    → Stands step (Refused TooLong) line handed (came ++ octet ∷ [])
too-long step line handed came octet other long s = record {
  lines = s.lines;
  rest = octet ∷ [];
  greeting = s.greeting;
  whole = behind (ended s.lines) line s.rest came octet s.whole s.judged.0;
  before = s.before;
  judged = ((octet, [], refl, other), long);
}

pub no-code : (step : LoginStep) (line handed came : List ℕ) → IsNoReply line → Stands step Open line handed came
    → Stands step (Refused NoCode) line handed (came ++ 10 ∷ [])
no-code step line handed came none s = record {
  lines = s.lines;
  rest = 10 ∷ [];
  greeting = s.greeting;
  whole = behind (ended s.lines) line s.rest came 10 s.whole s.judged.0;
  before = s.before;
  judged = (([], refl), none);
}

pub fails : (step : LoginStep) (code : ℕ) (line handed came : List ℕ) → HasCode code line
    → meaning_of step code ≡ Fails → Stands step Open line handed came
    → Stands step (Refused (Answer code)) line handed (came ++ 10 ∷ [])
fails step code line handed came has meaning s = record {
  lines = s.lines;
  rest = 10 ∷ [];
  greeting = s.greeting;
  whole = behind (ended s.lines) line s.rest came 10 s.whole s.judged.0;
  before = s.before;
  judged = (([], refl), has, meaning);
}

greeting-case : (a b : Bool) → cond (a || b) GoesOn Fails ≡ GoesOn → (a ≡ true) ⊎ (b ≡ true)
greeting-case true b e = inl refl
greeting-case false true e = inr refl
greeting-case false false e = cc

greeting-never : (a : Bool) → cond a GoesOn Fails ≡ Succeeds → ⊥
greeting-never true e = cc
greeting-never false e = cc

user-goes : (a b : Bool) → cond a GoesOn (cond b Succeeds Fails) ≡ GoesOn → a ≡ true
user-goes true b e = refl
user-goes false true e = cc
user-goes false false e = cc

user-succeeds : (a b : Bool) → cond a GoesOn (cond b Succeeds Fails) ≡ Succeeds → b ≡ true
user-succeeds true b e = cc
user-succeeds false true e = refl
user-succeeds false false e = cc

password-goes : (a : Bool) → cond a Succeeds Fails ≡ GoesOn → ⊥
password-goes true e = cc
password-goes false e = cc

password-succeeds : (a : Bool) → cond a Succeeds Fails ≡ Succeeds → a ≡ true
password-succeeds true e = refl
password-succeeds false e = cc

-- the line with its code, if that is known
coded : (code other : ℕ) (line : List ℕ) → eqb code other ≡ true → HasCode code line → HasCode other line
coded code other line e has = subst (λ c. HasCode c line) (eqb-true code other e) has

is-greeting : (code : ℕ) (line : List ℕ) → meaning_of Greeting code ≡ GoesOn → HasCode code line → IsGreeting line
is-greeting code line e has =
    elim (greeting-case (eqb code 200) (eqb code 201) e) [
      | inl a ↦ inl (coded code 200 line a has)
      | inr b ↦ inr (coded code 201 line b has)
    ]

-- only a 281 succeeds, and not as a greeting
is-accepted : (step : LoginStep) (code : ℕ) (line : List ℕ) → meaning_of step code ≡ Succeeds → HasCode code line
    → HasCode 281 line × (step ≢ Greeting)
is-accepted Greeting code line e has = absurd (greeting-never (eqb code 200 || eqb code 201) e)
is-accepted User code line e has =
    (coded code 281 line (user-succeeds (eqb code 381) (eqb code 281) e) has, λ same. cc)
is-accepted Password code line e has = (coded code 281 line (password-succeeds (eqb code 281) e) has, λ same. cc)

pub succeeds : (step : LoginStep) (code : ℕ) (line handed came : List ℕ) → HasCode code line
    → meaning_of step code ≡ Succeeds → Stands step Open line handed came
    → Stands step Accepted line handed (came ++ 10 ∷ [])
succeeds step code line handed came has meaning s =
    let accepted = is-accepted step code line meaning has in
    record {
      lines = s.lines;
      rest = 10 ∷ [];
      greeting = s.greeting;
      whole = behind (ended s.lines) line s.rest came 10 s.whole s.judged.0;
      before = s.before;
      judged = (([], refl, s.judged.1 ∙ sym (append-nil s.greeting)), accepted.0, accepted.1);
    }

-- one more whole line
one-more : (lines : List (List ℕ)) (line rest came : List ℕ) → came ≡ ended lines ++ (line ++ rest) → rest ≡ []
    → came ++ 10 ∷ [] ≡ ended (lines ++ line ∷ []) ++ ([] ++ [])
one-more lines line rest came whole none =
    ended_push (came ++ 10 ∷ []) (line ++ 10 ∷ []) line [] lines
    (behind (ended lines) line rest came 10 whole none) refl

-- the greeting came
pub greeted : (code : ℕ) (line handed came : List ℕ) → HasCode code line → meaning_of Greeting code ≡ GoesOn
    → Stands Greeting Open line handed came → Stands User Open [] (line ++ 10 ∷ []) (came ++ 10 ∷ [])
greeted code line handed came has meaning s = record {
  lines = s.lines ++ line ∷ [];
  rest = [];
  greeting = line ++ 10 ∷ [];
  whole = one-more s.lines line s.rest came s.whole s.judged.0;
  before = (line, ap (λ ls. ls ++ line ∷ []) s.before.0, refl, is-greeting code line meaning has);
  judged = (refl, refl);
}

-- the password was asked for
pub asked : (step : LoginStep) (code : ℕ) (line handed came : List ℕ) → step ≢ Greeting → HasCode code line
    → meaning_of step code ≡ GoesOn → Stands step Open line handed came
    → Stands Password Open [] handed (came ++ 10 ∷ [])
asked Greeting code line handed came other has meaning s = absurd (other refl)
asked Password code line handed came other has meaning s = absurd (password-goes (eqb code 281) meaning)
asked User code line handed came other has meaning s =
    let asks = coded code 381 line (user-goes (eqb code 381) (eqb code 281) meaning) has in
    let b = s.before in
    record {
      lines = s.lines ++ line ∷ [];
      rest = [];
      greeting = s.greeting;
      whole = one-more s.lines line s.rest came s.whole s.judged.0;
      before = (b.0, line, ap (λ ls. ls ++ line ∷ []) b.1, b.2, b.3, asks);
      judged = (refl, s.judged.1);
    }

-- what came after the end
after-end : (before line rest came octets : List ℕ) → came ≡ before ++ (line ++ rest)
    → came ++ octets ≡ before ++ (line ++ (rest ++ octets))
after-end before line rest came octets whole =
    ap (λ c. c ++ octets) whole ∙ append_assoc before (line ++ rest) octets
    ∙ ap (λ l. before ++ l) (append_assoc line rest octets)

pub passed-on : (step : LoginStep) (line handed came octets : List ℕ) → Stands step Accepted line handed came
    → Stands step Accepted line (handed ++ octets) (came ++ octets)
passed-on step line handed came octets s =
    let after = s.judged.0 in
    record {
      lines = s.lines;
      rest = s.rest ++ octets;
      greeting = s.greeting;
      whole = after-end (ended s.lines) line s.rest came octets s.whole;
      before = s.before;
      judged = (
        (
          after.0 ++ octets,
          ap (λ r. r ++ octets) after.1,
          ap (λ h. h ++ octets) after.2 ∙ append_assoc s.greeting after.0 octets,
        ),
        s.judged.1,
        s.judged.2,
      );
    }

more-refused : (step : LoginStep) (refusal : Refusal) (line rest octets : List ℕ) → Refuses step refusal line rest
    → Refuses step refusal line (rest ++ octets)
more-refused step (Answer code) line rest octets r =
    ((r.0.0 ++ octets, ap (λ x. x ++ octets) r.0.1), r.1, r.2)
more-refused step NoCode line rest octets r = ((r.0.0 ++ octets, ap (λ x. x ++ octets) r.0.1), r.1)
more-refused step TooLong line rest octets r =
    ((r.0.0, r.0.1 ++ octets, ap (λ x. x ++ octets) r.0.2, r.0.3), r.1)
more-refused step Timeout line rest octets r = tt
more-refused step NoMemory line rest octets r = tt

pub dropped : (step : LoginStep) (refusal : Refusal) (line handed came octets : List ℕ)
    → Stands step (Refused refusal) line handed came → Stands step (Refused refusal) line handed (came ++ octets)
dropped step refusal line handed came octets s = record {
  lines = s.lines;
  rest = s.rest ++ octets;
  greeting = s.greeting;
  whole = after-end (ended s.lines) line s.rest came octets s.whole;
  before = s.before;
  judged = more-refused step refusal line s.rest octets s.judged;
}

-- ---- the same of what a login holds

-- what stands for octets, by its parts
abbrev At : (step : LoginStep) (end : LoginEnd) (line handed came : List ℕ) → Type 0
At step end line handed came = (end ≡ Refused NoMemory) ⊎ Stands step end line handed came

-- what a login that is under way stands for
under-way : (step : LoginStep) (end : LoginEnd) (line handed came : List ℕ) → end ≡ Open → At step end line handed came
    → Stands step Open line handed came
under-way step end line handed came open_is (inl lacks) =
    let both : Refused NoMemory ≡ Open = sym lacks ∙ open_is in cc
under-way step end line handed came open_is (inr s) =
    subst (λ (e : LoginEnd). Stands step e line handed came) open_is s

same-parts : (step step' : LoginStep) (end end' : LoginEnd) (line line' handed handed' came : List ℕ) → step ≡ step'
    → end ≡ end' → line ≡ line' → handed ≡ handed' → At step' end' line' handed' came → At step end line handed came
same-parts step step' end end' line line' handed handed' came a b c d s =
    subst (λ (x : LoginStep). At x end line handed came) (sym a)
    (subst (λ (x : LoginEnd). At step' x line handed came) (sym b)
    (subst (λ (x : List ℕ). At step' end' x handed came) (sym c)
    (subst (λ (x : List ℕ). At step' end' line' x came) (sym d) s)))

-- a login that is under way stands for what came
now : (old : Held) (came : List ℕ) → old.end ≡ Open → StandsFor old came → Stands old.step Open old.line old.handed came
now old came opens s = under-way old.step old.end old.line old.handed came opens s

pub pushed-at : (old : Held) (came : List ℕ) (octet : ℕ) (step : LoginStep) (end : LoginEnd) (line handed : List ℕ)
    → old.end ≡ Open → step ≡ old.step → end ≡ old.end → line ≡ old.line ++ octet ∷ [] → handed ≡ old.handed
    → StandsFor old came → At step end line handed (came ++ octet ∷ [])
pushed-at old came octet step end line handed opens a b c d s =
    same-parts step old.step end Open line (old.line ++ octet ∷ []) handed old.handed (came ++ octet ∷ []) a (b ∙ opens)
    c d (inr (pushed old.step old.line old.handed came octet (now old came opens s)))

pub too-long-at : (old : Held) (came : List ℕ) (octet : ℕ) (step : LoginStep) (end : LoginEnd) (line handed : List ℕ)
    → old.end ≡ Open → octet ≢ 10 → length line + 1 ≡ longest_reply → step ≡ old.step → end ≡ Refused TooLong
    → line ≡ old.line → handed ≡ old.handed → StandsFor old came → At step end line handed (came ++ octet ∷ [])
too-long-at old came octet step end line handed opens other long a b c d s =
    same-parts step old.step end (Refused TooLong) line old.line handed old.handed (came ++ octet ∷ []) a b c d
    (inr (too-long old.step old.line old.handed came octet other
    (subst (λ (l : List ℕ). length l + 1 ≡ longest_reply) c long) (now old came opens s)))

pub no-code-at : (old : Held) (came : List ℕ) (step : LoginStep) (end : LoginEnd) (line handed : List ℕ)
    → old.end ≡ Open → IsNoReply line → step ≡ old.step → end ≡ Refused NoCode → line ≡ old.line
    → handed ≡ old.handed → StandsFor old came → At step end line handed (came ++ 10 ∷ [])
no-code-at old came step end line handed opens none a b c d s =
    same-parts step old.step end (Refused NoCode) line old.line handed old.handed (came ++ 10 ∷ []) a b c d
    (inr (no-code old.step old.line old.handed came (subst IsNoReply c none) (now old came opens s)))

-- the code with which a line begins
pub has-code : (code : ℕ) (line text : List ℕ) → IsShort line → text ≡ line
    → ((rest : List ℕ) × BeginsWithCode (without_cr text) code rest) → HasCode code line
has-code code line text short same begins =
    (short, subst (λ (l : List ℕ). (rest : List ℕ) × BeginsWithCode (without_cr l) code rest) same begins)

pub fails-at : (old : Held) (came : List ℕ) (code : ℕ) (step : LoginStep) (end : LoginEnd) (line handed : List ℕ)
    → old.end ≡ Open → HasCode code line → meaning_of step code ≡ Fails → step ≡ old.step
    → end ≡ Refused (Answer code) → line ≡ old.line → handed ≡ old.handed → StandsFor old came
    → At step end line handed (came ++ 10 ∷ [])
fails-at old came code step end line handed opens has meaning a b c d s =
    same-parts step old.step end (Refused (Answer code)) line old.line handed old.handed (came ++ 10 ∷ []) a b c d
    (inr (fails old.step code old.line old.handed came (subst (λ (l : List ℕ). HasCode code l) c has)
    (subst (λ (x : LoginStep). meaning_of x code ≡ Fails) a meaning) (now old came opens s)))

pub succeeds-at : (old : Held) (came : List ℕ) (code : ℕ) (step : LoginStep) (end : LoginEnd) (line handed : List ℕ)
    → old.end ≡ Open → HasCode code line → meaning_of step code ≡ Succeeds → step ≡ old.step → end ≡ Accepted
    → line ≡ old.line → handed ≡ old.handed → StandsFor old came → At step end line handed (came ++ 10 ∷ [])
succeeds-at old came code step end line handed opens has meaning a b c d s =
    same-parts step old.step end Accepted line old.line handed old.handed (came ++ 10 ∷ []) a b c d
    (inr (succeeds old.step code old.line old.handed came (subst (λ (l : List ℕ). HasCode code l) c has)
    (subst (λ (x : LoginStep). meaning_of x code ≡ Succeeds) a meaning) (now old came opens s)))

pub greeted-at : (old : Held) (came : List ℕ) (code : ℕ) (end : LoginEnd) (line handed : List ℕ) → old.end ≡ Open
    → old.step ≡ Greeting → HasCode code old.line → meaning_of old.step code ≡ GoesOn → end ≡ old.end → line ≡ []
    → handed ≡ old.line ++ 10 ∷ [] → StandsFor old came → At User end line handed (came ++ 10 ∷ [])
greeted-at old came code end line handed opens first has meaning b c d s =
    same-parts User User end Open line [] handed (old.line ++ 10 ∷ []) (came ++ 10 ∷ []) refl (b ∙ opens) c d
    (inr (greeted code old.line old.handed came has
    (subst (λ (x : LoginStep). meaning_of x code ≡ GoesOn) first meaning)
    (subst (λ (x : LoginStep). Stands x Open old.line old.handed came) first (now old came opens s))))

pub asked-at : (old : Held) (came : List ℕ) (code : ℕ) (end : LoginEnd) (line handed : List ℕ) → old.end ≡ Open
    → old.step ≢ Greeting → HasCode code old.line → meaning_of old.step code ≡ GoesOn → end ≡ old.end → line ≡ []
    → handed ≡ old.handed → StandsFor old came → At Password end line handed (came ++ 10 ∷ [])
asked-at old came code end line handed opens other has meaning b c d s =
    same-parts Password Password end Open line [] handed old.handed (came ++ 10 ∷ []) refl (b ∙ opens) c d
    (inr (asked old.step code old.line old.handed came other has meaning (now old came opens s)))

-- more came after the end
pub passed-at : (old : Held) (came octets : List ℕ) (step : LoginStep) (end : LoginEnd) (line handed : List ℕ)
    → step ≡ old.step → end ≡ Accepted → old.end ≡ Accepted → line ≡ old.line → handed ≡ old.handed ++ octets
    → StandsFor old came → At step end line handed (came ++ octets)
passed-at old came octets step end line handed a b accepted c d (inl lacks) =
    let both : Refused NoMemory ≡ Accepted = sym lacks ∙ accepted in cc
passed-at old came octets step end line handed a b accepted c d (inr s) =
    same-parts step old.step end Accepted line old.line handed (old.handed ++ octets) (came ++ octets) a b c d
    (inr (passed-on old.step old.line old.handed came octets
    (subst (λ (e : LoginEnd). Stands old.step e old.line old.handed came) accepted s)))

dropped-end : (step : LoginStep) (end : LoginEnd) (line handed came octets : List ℕ) → end ≢ Open → end ≢ Accepted
    → At step end line handed came → At step end line handed (came ++ octets)
dropped-end step end line handed came octets one two (inl lacks) = inl lacks
dropped-end step Open line handed came octets one two (inr s) = absurd (one refl)
dropped-end step Accepted line handed came octets one two (inr s) = absurd (two refl)
dropped-end step (Refused refusal) line handed came octets one two (inr s) =
    inr (dropped step refusal line handed came octets s)

pub dropped-at : (old : Held) (came octets : List ℕ) → old.end ≢ Open → old.end ≢ Accepted → StandsFor old came
    → StandsFor old (came ++ octets)
dropped-at old came octets one two s = dropped-end old.step old.end old.line old.handed came octets one two s

-- the octets so far, and one more
pub one-on : (first mid new : Held) (octets : List ℕ) (index octet : ℕ)
    → take (index + 1) octets ≡ take index octets ++ octet ∷ []
    → ((came : List ℕ) → StandsFor first came → StandsFor mid (came ++ take index octets))
    → ((came : List ℕ) → StandsFor mid came → StandsFor new (came ++ octet ∷ []))
    → (came : List ℕ) → StandsFor first came → StandsFor new (came ++ take (index + 1) octets)
one-on first mid new octets index octet more so_far step came s =
    subst (λ (c : List ℕ). StandsFor new c)
    (append_assoc came (take index octets) (octet ∷ []) ∙ ap (λ l. came ++ l) (sym more))
    (step (came ++ take index octets) (so_far came s))

-- the octets so far, and the others
pub all-on : (first mid new : Held) (octets rest : List ℕ) (index : ℕ) → rest ≡ drop index octets
    → ((came : List ℕ) → StandsFor first came → StandsFor mid (came ++ take index octets))
    → ((came : List ℕ) → StandsFor mid came → StandsFor new (came ++ rest))
    → (came : List ℕ) → StandsFor first came → StandsFor new (came ++ octets)
all-on first mid new octets rest index others so_far step came s =
    subst (λ (c : List ℕ). StandsFor new c)
    (append_assoc came (take index octets) rest
    ∙ ap (λ l. came ++ l) (ap (λ r. take index octets ++ r) others ∙ take-append-drop index octets))
    (step (came ++ take index octets) (so_far came s))

pub kept-on : (old mid new : Held) → KeepsCommands old mid → KeepsCommands mid new → KeepsCommands old new
kept-on old mid new one two = record {
  user = two.user ∙ one.user;
  password = two.password ∙ one.password;
  sent = two.sent ∙ one.sent;
  timeout = two.timeout ∙ one.timeout;
}

pub kept-self : (held : Held) → KeepsCommands held held
kept-self held = record { user = refl; password = refl; sent = refl; timeout = refl }

-- a fact of a success that follows from another
pub on-ok : {E : Type 0} (P Q : Type 0) (r : Result (Unit {0}) E) → (P → Q) → OnOk r P → OnOk r Q
on-ok P Q (Ok done) follows p = follows p
on-ok P Q (Err fault) follows p = p

-- the same of what was added to a vector
pub on-added : {E : Type 0} (Q : Type 0) (r : Result (Unit {0}) E) (xs a b : List ℕ)
    → xs ≡ (if is_ok r then a else b) → (xs ≡ a → Q) → OnOk r Q
on-added Q (Ok done) xs a b e follows = follows e
on-added Q (Err fault) xs a b e follows = tt

-- the octets from a place on
pub rest-is : (octets : List ℕ) (index : ℕ) → take (length octets - index) (drop index octets) ≡ drop index octets
rest-is octets index =
    take_all (length octets - index) (drop index octets) (omega (arith, length-drop index octets))

-- the password in all commands
pub password-is : (all : List ℕ) (user_len n : ℕ) → n ≡ length all
    → take (n - 2 - (user_len + 14)) (drop (user_len + 14) all)
    ≡ take (length (drop user_len all) - 16) (drop 14 (drop user_len all))
password-is all user_len n e =
    let count : n - 2 - (user_len + 14) ≡ length (drop user_len all) - 16 =
    simp length-drop (omega (arith, e)) in
    ap (λ k. take k (drop (user_len + 14) all)) count
    ∙ ap (λ rest. take (length (drop user_len all) - 16) rest) (sym (drop-drop 14 user_len all))
