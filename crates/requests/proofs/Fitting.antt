-- The fields that fit a word are those of the request that is built of them.
use Rattle.std.proofs.Common.{◌≡◌, ◌∙◌, ℕ, Bool, true, false, cond, not, eqb}
use Rattle.std.proofs.Common.{List, [], ◌∷◌, length, refl, sym, ap, arith, Option, Some, None}
use Rattle.std.proofs.lemmas.Bool.{and_parts, eqb-true}
use Rattle.std.specs.Prelude.{is_some, unwrap_or}
use Rattle.funnel.specs.Names.{is_msg_id, is_peer_name}
use Rattle.requests.specs.Fields.{Texts, fault_of, fits, good}
use Rattle.requests.specs.Numbers.{is_number, number_in}
use Rattle.requests.specs.Words.{allows, rules}
use Rattle.requests.specs.Requests.{HasForms, IsKey, IsPeer, built, key_in, key_text, texts_for, with_fields, word_of}
use Rattle.requests.specs.declared.faults.RequestFault.{RequestFault}
use Rattle.requests.specs.declared.faults.RequestFault.TheVariants.{BadField, BadPeer, BadId, BadNumber}
use Rattle.requests.specs.declared.words.Word.{Word}
use Rattle.requests.specs.declared.words.Word.TheVariants.{Status, StatusJson, Retry, LogVerbose, LogQuiet, LogReopen}
use Rattle.requests.specs.declared.words.Word.TheVariants.{Hold, Release, Purge, DropArticle, TakeIn, Reload}
use Rattle.requests.proofs.Decimals.{number_text}

-- nothing is wrong with these fields
pub record IsFit (word : Word) (texts : Texts) : Type 0 where
  pub peer_allowed : allows (rules word).peer (is_some texts.peer) ≡ true
  pub id_allowed : allows (rules word).id (is_some texts.id) ≡ true
  pub key_allowed : allows (rules word).key (is_some texts.key) ≡ true
  pub rest_empty : texts.rest ≡ []
  pub peer_good : good is_peer_name texts.peer ≡ true
  pub id_good : good is_msg_id texts.id ≡ true
  pub key_good : good is_number texts.key ≡ true

empty_is : (xs : List ℕ) → eqb (length xs) 0 ≡ true → xs ≡ []
empty_is [] e = refl
empty_is (x ∷ xs) e = absurd (omega (arith, eqb-true (length (x ∷ xs)) 0 e))

-- the four tests in their order
abbrev tests : (a b c d : Bool) → Option RequestFault
tests a b c d =
    cond a (cond b (cond c (cond d None (Some BadNumber)) (Some BadId)) (Some BadPeer)) (Some BadField)

all_hold : (a b c d : Bool) → tests a b c d ≡ None → (a ≡ true) × (b ≡ true) × (c ≡ true) × (d ≡ true)
all_hold true true true true e = (refl, refl, refl, refl)
all_hold true true true false e = cc
all_hold true true false d e = cc
all_hold true false c d e = cc
all_hold false b c d e = cc

pub is_fit : (word : Word) (texts : Texts) → fault_of word texts ≡ None → IsFit word texts
is_fit word texts e =
    let all =
    all_hold (fits word texts) (good is_peer_name texts.peer) (good is_msg_id texts.id) (good is_number texts.key) e in
    let last = and_parts _ (eqb (length texts.rest) 0) all.0 in
    let key = and_parts _ (allows (rules word).key (is_some texts.key)) last.0 in
    let first =
    and_parts (allows (rules word).peer (is_some texts.peer)) (allows (rules word).id (is_some texts.id)) key.0 in
    record {
      peer_allowed = first.0;
      id_allowed = first.1;
      key_allowed = key.1;
      rest_empty = empty_is texts.rest last.1;
      peer_good = all.1;
      id_good = all.2;
      key_good = all.3;
    }

pub never : (o : Option (List ℕ)) → not (is_some o) ≡ true → None ≡ o
never None e = refl
never (Some x) e = cc

pub must : (o : Option (List ℕ)) → is_some o ≡ true → Some (unwrap_or o []) ≡ o
must None e = cc
must (Some x) e = refl

key_by : (x : List ℕ) (o : Option ℕ) → number_in x ≡ o → is_some o ≡ true → (key_text o ≡ Some x) × IsKey o
key_by x None e there = absurd (cc there)
key_by x (Some n) e there = let both = number_text x n e in (ap Some (sym both.1), both.0)

key_is : (o : Option (List ℕ)) → good is_number o ≡ true → (key_text (key_in o) ≡ o) × IsKey (key_in o)
key_is None e = (refl, tt)
key_is (Some x) e = key_by x (number_in x) refl e

texts_same : (t : Texts) (peer id key : Option (List ℕ)) → peer ≡ t.peer → id ≡ t.id → key ≡ t.key → t.rest ≡ []
    → with_fields peer id key ≡ t
texts_same t peer id key a b c d =
    let at_peer : Option (List ℕ) → Texts = λ x. with_fields x id key in
    let at_id : Option (List ℕ) → Texts = λ x. with_fields t.peer x key in
    let at_key : Option (List ℕ) → Texts = λ x. with_fields t.peer t.id x in
    let at_rest : List ℕ → Texts = λ x. record { peer = t.peer; id = t.id; key = t.key; rest = x } in
    ap at_peer a ∙ ap at_id b ∙ ap at_key c ∙ ap at_rest (sym d)

pub texts_kept : (word : Word) (t : Texts) → IsFit word t → texts_for (built word t) ≡ t
texts_kept Status t h =
    texts_same t _ _ _ refl (never t.id h.id_allowed) (never t.key h.key_allowed) h.rest_empty
texts_kept StatusJson t h =
    texts_same t _ _ _ refl (never t.id h.id_allowed) (never t.key h.key_allowed) h.rest_empty
texts_kept Retry t h =
    texts_same t _ _ _ refl (never t.id h.id_allowed) (never t.key h.key_allowed) h.rest_empty
texts_kept LogVerbose t h =
    texts_same t _ _ _ (never t.peer h.peer_allowed) (never t.id h.id_allowed) (never t.key h.key_allowed) h.rest_empty
texts_kept LogQuiet t h =
    texts_same t _ _ _ (never t.peer h.peer_allowed) (never t.id h.id_allowed) (never t.key h.key_allowed) h.rest_empty
texts_kept LogReopen t h =
    texts_same t _ _ _ (never t.peer h.peer_allowed) (never t.id h.id_allowed) (never t.key h.key_allowed) h.rest_empty
texts_kept Hold t h =
    texts_same t _ _ _ (must t.peer h.peer_allowed) (never t.id h.id_allowed) (never t.key h.key_allowed) h.rest_empty
texts_kept Release t h =
    texts_same t _ _ _ (must t.peer h.peer_allowed) (never t.id h.id_allowed) (never t.key h.key_allowed) h.rest_empty
texts_kept Purge t h =
    texts_same t _ _ _ (must t.peer h.peer_allowed) (never t.id h.id_allowed) (key_is t.key h.key_good).0 h.rest_empty
texts_kept DropArticle t h =
    texts_same t _ _ _ refl (must t.id h.id_allowed) (never t.key h.key_allowed) h.rest_empty
texts_kept TakeIn t h =
    texts_same t _ _ _ refl (never t.id h.id_allowed) (never t.key h.key_allowed) h.rest_empty
texts_kept Reload t h =
    texts_same t _ _ _ (never t.peer h.peer_allowed) (never t.id h.id_allowed) (never t.key h.key_allowed) h.rest_empty

pub word_kept : (word : Word) (t : Texts) → word_of (built word t) ≡ word
word_kept Status t = refl
word_kept StatusJson t = refl
word_kept Retry t = refl
word_kept LogVerbose t = refl
word_kept LogQuiet t = refl
word_kept LogReopen t = refl
word_kept Hold t = refl
word_kept Release t = refl
word_kept Purge t = refl
word_kept DropArticle t = refl
word_kept TakeIn t = refl
word_kept Reload t = refl

peer_is : (o : Option (List ℕ)) → good is_peer_name o ≡ true → IsPeer o
peer_is None e = tt
peer_is (Some x) e = e

needed_good : (test : List ℕ → Bool) (o : Option (List ℕ)) → is_some o ≡ true → good test o ≡ true
    → test (unwrap_or o []) ≡ true
needed_good test None there e = cc
needed_good test (Some x) there e = e

pub forms_kept : (word : Word) (t : Texts) → IsFit word t → HasForms (built word t)
forms_kept Status t h = peer_is t.peer h.peer_good
forms_kept StatusJson t h = peer_is t.peer h.peer_good
forms_kept Retry t h = peer_is t.peer h.peer_good
forms_kept LogVerbose t h = tt
forms_kept LogQuiet t h = tt
forms_kept LogReopen t h = tt
forms_kept Hold t h = needed_good is_peer_name t.peer h.peer_allowed h.peer_good
forms_kept Release t h = needed_good is_peer_name t.peer h.peer_allowed h.peer_good
forms_kept Purge t h = (needed_good is_peer_name t.peer h.peer_allowed h.peer_good, (key_is t.key h.key_good).1)
forms_kept DropArticle t h = (peer_is t.peer h.peer_good, needed_good is_msg_id t.id h.id_allowed h.id_good)
forms_kept TakeIn t h = peer_is t.peer h.peer_good
forms_kept Reload t h = tt
