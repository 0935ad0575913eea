-- What is written of a request is read as that request.
use Rattle.std.proofs.Common.{◌≡◌, ◌&&◌, ◌+◌, ◌-◌, ◌<◌, ◌≤◌, ◌^◌, ◌∙◌, ℕ, Bool, true, false, not, eqb}
use Rattle.std.proofs.Common.{List, [], ◌∷◌, ◌++◌, length, take, drop, get_or, refl, sym, ap, subst, arith}
use Rattle.std.proofs.Common.{Option, Some, None, Ok}
use Rattle.std.proofs.lemmas.Bool.{and_parts, and_from, eq-eqb, eqb-true, le-leb, leb-true, lt-ltb}
use Rattle.std.proofs.lemmas.Fmt.{digits_decimal, length-decimal-le}
use Rattle.std.proofs.lemmas.List.{append_assoc, drop_at, get_or-append_right, length-append, take_at}
use Rattle.std.specs.Prelude.{decimal, nat_eq, nat_le, nat_lt}
use Rattle.std.specs.Char.{is_ascii_digit}
use Rattle.std.specs.List.{list_all, starts_with}
use Rattle.funnel.specs.Names.{is_graphic, is_msg_id, is_name_octet, is_peer_name}
use Rattle.requests.specs.Fields.{Texts, behind, end_of, fault_of, field, fields_text, good, id_key, key_key}
use Rattle.requests.specs.Fields.{peer_key, texts_in, value_at}
use Rattle.requests.specs.Numbers.{is_number}
use Rattle.requests.specs.Requests.{HasForms, IsKey, IsPeer, asked_by, built, key_in, key_text, line_asks, line_of}
use Rattle.requests.specs.Requests.{longest_request, request_in, request_text, texts_for, unless, with_fields, word_of}
use Rattle.requests.specs.Words.{word_in, word_text}
use Rattle.requests.specs.declared.request.Request.{Request}
use Rattle.requests.specs.declared.request.Request.TheVariants.{Status, Retry, LogVerbose, LogQuiet, LogReopen}
use Rattle.requests.specs.declared.request.Request.TheVariants.{Hold, Release, Purge, DropArticle, TakeIn, Reload}
use Rattle.requests.specs.declared.words.Word.{Word}
use Rattle.requests.specs.declared.words.Word.TheVariants.{Status as ForStatus, StatusJson as ForJson}
use Rattle.requests.specs.declared.words.Word.TheVariants.{Retry as ForRetry, LogVerbose as ForVerbose}
use Rattle.requests.specs.declared.words.Word.TheVariants.{LogQuiet as ForQuiet, LogReopen as ForReopen}
use Rattle.requests.specs.declared.words.Word.TheVariants.{Hold as ForHold, Release as ForRelease, Purge as ForPurge}
use Rattle.requests.specs.declared.words.Word.TheVariants.{DropArticle as ForDrop, TakeIn as ForTakeIn}
use Rattle.requests.specs.declared.words.Word.TheVariants.{Reload as ForReload}
use Rattle.requests.proofs.Cuts.{IsSolid, Stops, end_is, field_cut, field_not_cut}
use Rattle.requests.proofs.Decimals.{number_is, own}

abbrev is_solid : List ℕ → Bool
is_solid xs = list_all (λ octet. not (eqb octet 32)) xs

-- a field that may be there is cut off, and the rest stays
cut_one : (key : List ℕ) (o : Option (List ℕ)) (rest : List ℕ) → good is_solid o ≡ true → Stops rest
    → starts_with nat_eq rest key ≡ false
    → (value_at key (field key o rest) ≡ o) × (behind key (field key o rest) ≡ rest)
cut_one key None rest h s n = field_not_cut key rest n
cut_one key (Some value) rest h s n = field_cut key (key ++ (value ++ rest)) value rest refl h s

stops_key : (k : Option (List ℕ)) → Stops (field key_key k [])
stops_key None = tt
stops_key (Some x) = refl

stops_id : (i k : Option (List ℕ)) → Stops (field id_key i (field key_key k []))
stops_id None k = stops_key k
stops_id (Some x) k = refl

stops_peer : (p i k : Option (List ℕ)) → Stops (field peer_key p (field id_key i (field key_key k [])))
stops_peer None i k = stops_id i k
stops_peer (Some x) i k = refl

-- none of the fields that follow one has its key
other_id : (k : Option (List ℕ)) → starts_with nat_eq (field key_key k []) id_key ≡ false
other_id None = refl
other_id (Some x) = refl

other_peer : (i k : Option (List ℕ)) → starts_with nat_eq (field id_key i (field key_key k [])) peer_key ≡ false
other_peer (Some x) k = refl
other_peer None (Some x) = refl
other_peer None None = refl

-- no value has a space
record IsSolidAll (texts : Texts) : Type 0 where
  peer : good is_solid texts.peer ≡ true
  id : good is_solid texts.id ≡ true
  key : good is_solid texts.key ≡ true

-- the fields that are written are those that are cut off
texts_read : (p i k : Option (List ℕ)) → IsSolidAll (with_fields p i k)
    → texts_in (fields_text (with_fields p i k)) ≡ with_fields p i k
texts_read p i k h =
    let t3 = field key_key k [] in
    let t2 = field id_key i t3 in
    let t1 = field peer_key p t2 in
    let c1 = cut_one peer_key p t2 h.peer (stops_id i k) (other_peer i k) in
    let c2 = cut_one id_key i t3 h.id (stops_key k) (other_id k) in
    let c3 = cut_one key_key k [] h.key tt refl in
    let at2 : List ℕ → Texts = λ a. record {
      peer = p;
      id = value_at id_key a;
      key = value_at key_key (behind id_key a);
      rest = behind key_key (behind id_key a);
    } in
    let at3 : List ℕ → Texts = λ a. record { peer = p; id = i; key = value_at key_key a; rest = behind key_key a } in
    let v1 : Option (List ℕ) → Texts = λ v. record (at2 (behind peer_key t1)) { peer = v } in
    let v2 : Option (List ℕ) → Texts = λ v. record (at3 (behind id_key t2)) { id = v } in
    let v3 : Option (List ℕ) → Texts = λ v. record (with_fields p i v) { rest = behind key_key t3 } in
    let v4 : List ℕ → Texts = λ r. record (with_fields p i k) { rest = r } in
    ap v1 c1.0 ∙ ap at2 c1.1 ∙ ap v2 c2.0 ∙ ap at3 c2.1 ∙ ap v3 c3.0 ∙ ap v4 c3.1

word_found : (word : Word) → word_in (word_text word) ≡ Some word
word_found ForStatus = refl
word_found ForJson = refl
word_found ForRetry = refl
word_found ForVerbose = refl
word_found ForQuiet = refl
word_found ForReopen = refl
word_found ForHold = refl
word_found ForRelease = refl
word_found ForPurge = refl
word_found ForDrop = refl
word_found ForTakeIn = refl
word_found ForReload = refl

word_solid : (word : Word) → IsSolid (word_text word)
word_solid ForStatus = refl
word_solid ForJson = refl
word_solid ForRetry = refl
word_solid ForVerbose = refl
word_solid ForQuiet = refl
word_solid ForReopen = refl
word_solid ForHold = refl
word_solid ForRelease = refl
word_solid ForPurge = refl
word_solid ForDrop = refl
word_solid ForTakeIn = refl
word_solid ForReload = refl

-- if no space passes a test, octets that all pass it have no space
apart_by : (test : ℕ → Bool) (x : ℕ) (b : Bool) → eqb x 32 ≡ b → test 32 ≡ false → test x ≡ true → not b ≡ true
apart_by test x true e fails h =
    let clash : true ≡ false = sym h ∙ ap test (eqb-true x 32 e) ∙ fails in
    absurd (cc clash)
apart_by test x false e fails h = refl

all_apart : (test : ℕ → Bool) (xs : List ℕ) → test 32 ≡ false → list_all test xs ≡ true → IsSolid xs
all_apart test [] fails h = refl
all_apart test (x ∷ xs) fails h =
    let both = and_parts (test x) (list_all test xs) h in
    let first : not (eqb x 32) ≡ true = apart_by test x (eqb x 32) refl fails both.0 in
    and_from (not (eqb x 32)) (is_solid xs) first (all_apart test xs fails both.1)

peer_solid : (xs : List ℕ) → is_peer_name xs ≡ true → IsSolid xs
peer_solid xs h =
    let last = and_parts (nat_le 1 (length xs) && nat_le (length xs) 64 && list_all is_name_octet xs) _ h in
    all_apart is_name_octet xs refl
    (and_parts (nat_le 1 (length xs) && nat_le (length xs) 64) (list_all is_name_octet xs) last.0).1

id_solid : (xs : List ℕ) → is_msg_id xs ≡ true → IsSolid xs
id_solid xs h = all_apart is_graphic xs refl (and_parts _ (list_all is_graphic xs) h).1

number_solid : (n : ℕ) → n < 2 ^ 64 → IsSolid (decimal n)
number_solid n h = all_apart is_ascii_digit (decimal n) refl (digits_decimal own n h)

peer_maybe : (o : Option (List ℕ)) → IsPeer o → (good is_solid o ≡ true) × (good is_peer_name o ≡ true)
peer_maybe None h = (refl, refl)
peer_maybe (Some x) h = (peer_solid x h, h)

key_maybe : (o : Option ℕ) → IsKey o
    → (good is_solid (key_text o) ≡ true) × (good is_number (key_text o) ≡ true) × (key_in (key_text o) ≡ o)
key_maybe None h = (refl, refl, refl)
key_maybe (Some n) h = (number_solid n h, rw (number_is n h) refl, number_is n h)

-- the fields of a request have no space
solid_all : (r : Request) → HasForms r → IsSolidAll (texts_for r)
solid_all (Status peer json) h = record { peer = (peer_maybe peer h).0; id = refl; key = refl }
solid_all (Retry peer) h = record { peer = (peer_maybe peer h).0; id = refl; key = refl }
solid_all LogVerbose h = record { peer = refl; id = refl; key = refl }
solid_all LogQuiet h = record { peer = refl; id = refl; key = refl }
solid_all LogReopen h = record { peer = refl; id = refl; key = refl }
solid_all (Hold peer) h = record { peer = peer_solid peer h; id = refl; key = refl }
solid_all (Release peer) h = record { peer = peer_solid peer h; id = refl; key = refl }
solid_all (Purge peer key) h = record { peer = peer_solid peer h.0; id = refl; key = (key_maybe key h.1).0 }
solid_all (DropArticle peer id) h = record { peer = (peer_maybe peer h.0).0; id = id_solid id h.1; key = refl }
solid_all (TakeIn peer) h = record { peer = (peer_maybe peer h).0; id = refl; key = refl }
solid_all Reload h = record { peer = refl; id = refl; key = refl }

-- they have no other part
shape : (r : Request) → texts_for r ≡ with_fields (texts_for r).peer (texts_for r).id (texts_for r).key
shape (Status peer json) = refl
shape (Retry peer) = refl
shape LogVerbose = refl
shape LogQuiet = refl
shape LogReopen = refl
shape (Hold peer) = refl
shape (Release peer) = refl
shape (Purge peer key) = refl
shape (DropArticle peer id) = refl
shape (TakeIn peer) = refl
shape Reload = refl

fields_read : (r : Request) → HasForms r → texts_in (fields_text (texts_for r)) ≡ texts_for r
fields_read r h =
    ap (λ t. texts_in (fields_text t)) (shape r) ∙ texts_read _ _ _ (subst IsSolidAll (shape r) (solid_all r h))
    ∙ sym (shape r)

fields_stop : (r : Request) → Stops (fields_text (texts_for r))
fields_stop r =
    subst (λ t. Stops (fields_text t)) (sym (shape r))
    (stops_peer (texts_for r).peer (texts_for r).id (texts_for r).key)

-- nothing is wrong with them
faultless : (r : Request) → HasForms r → fault_of (word_of r) (texts_for r) ≡ None
faultless (Status None true) h = refl
faultless (Status None false) h = refl
faultless (Status (Some peer) true) h = rw h refl
faultless (Status (Some peer) false) h = rw h refl
faultless (Retry None) h = refl
faultless (Retry (Some peer)) h = rw h refl
faultless LogVerbose h = refl
faultless LogQuiet h = refl
faultless LogReopen h = refl
faultless (Hold peer) h = rw h refl
faultless (Release peer) h = rw h refl
faultless (Purge peer None) h = rw h.0 refl
faultless (Purge peer (Some key)) h = rw h.0 (rw (key_maybe (Some key) h.1).1 refl)
faultless (DropArticle None id) h = rw h.1 refl
faultless (DropArticle (Some peer) id) h = rw h.0 (rw h.1 refl)
faultless (TakeIn None) h = refl
faultless (TakeIn (Some peer)) h = rw h refl
faultless Reload h = refl

-- and the request is built of them
built_again : (r : Request) → HasForms r → built (word_of r) (texts_for r) ≡ r
built_again (Status peer true) h = refl
built_again (Status peer false) h = refl
built_again (Retry peer) h = refl
built_again LogVerbose h = refl
built_again LogQuiet h = refl
built_again LogReopen h = refl
built_again (Hold peer) h = refl
built_again (Release peer) h = refl
built_again (Purge peer key) h = ap (Purge peer) (key_maybe key h.1).2
built_again (DropArticle peer id) h = refl
built_again (TakeIn peer) h = refl
built_again Reload h = refl

-- how long a field is
field_short : (key : List ℕ) (o : Option (List ℕ)) (rest : List ℕ) (most : ℕ)
    → good (λ x. nat_le (length x) most) o ≡ true → length (field key o rest) ≤ length key + most + length rest
field_short key None rest most h = omega arith
field_short key (Some x) rest most h =
    omega (arith, length-append key (x ++ rest), length-append x rest, leb-true (length x) most h)

-- no value is longer than these
record IsShortAll (texts : Texts) : Type 0 where
  peer : good (λ x. nat_le (length x) 64) texts.peer ≡ true
  id : good (λ x. nat_le (length x) 250) texts.id ≡ true
  key : good (λ x. nat_le (length x) 64) texts.key ≡ true

peer_short : (xs : List ℕ) → is_peer_name xs ≡ true → nat_le (length xs) 64 ≡ true
peer_short xs h =
    let last = and_parts (nat_le 1 (length xs) && nat_le (length xs) 64 && list_all is_name_octet xs) _ h in
    let next = and_parts (nat_le 1 (length xs) && nat_le (length xs) 64) (list_all is_name_octet xs) last.0 in
    (and_parts (nat_le 1 (length xs)) (nat_le (length xs) 64) next.0).1

peer_short_maybe : (o : Option (List ℕ)) → IsPeer o → good (λ x. nat_le (length x) 64) o ≡ true
peer_short_maybe None h = refl
peer_short_maybe (Some x) h = peer_short x h

id_short : (xs : List ℕ) → is_msg_id xs ≡ true → nat_le (length xs) 250 ≡ true
id_short xs h =
    let a = and_parts _ (list_all is_graphic xs) h in
    let b = and_parts _ _ a.0 in
    let c = and_parts _ _ b.0 in
    let d = and_parts _ _ c.0 in
    (and_parts (nat_le 3 (length xs)) (nat_le (length xs) 250) d.0).1

key_short : (o : Option ℕ) → IsKey o → good (λ x. nat_le (length x) 64) (key_text o) ≡ true
key_short None h = refl
key_short (Some n) h =
    let most : length (decimal n) ≤ 20 = length-decimal-le 20 n (omega arith) (omega (arith, h)) h in
    le-leb (length (decimal n)) 64 (omega (arith, most))

short_all : (r : Request) → HasForms r → IsShortAll (texts_for r)
short_all (Status peer json) h = record { peer = peer_short_maybe peer h; id = refl; key = refl }
short_all (Retry peer) h = record { peer = peer_short_maybe peer h; id = refl; key = refl }
short_all LogVerbose h = record { peer = refl; id = refl; key = refl }
short_all LogQuiet h = record { peer = refl; id = refl; key = refl }
short_all LogReopen h = record { peer = refl; id = refl; key = refl }
short_all (Hold peer) h = record { peer = peer_short peer h; id = refl; key = refl }
short_all (Release peer) h = record { peer = peer_short peer h; id = refl; key = refl }
short_all (Purge peer key) h = record { peer = peer_short peer h.0; id = refl; key = key_short key h.1 }
short_all (DropArticle peer id) h = record { peer = peer_short_maybe peer h.0; id = id_short id h.1; key = refl }
short_all (TakeIn peer) h = record { peer = peer_short_maybe peer h; id = refl; key = refl }
short_all Reload h = record { peer = refl; id = refl; key = refl }

fields_short_by : (p i k : Option (List ℕ)) → IsShortAll (with_fields p i k)
    → length (fields_text (with_fields p i k)) ≤ 400
fields_short_by p i k h =
    let t3 = field key_key k [] in
    let t2 = field id_key i t3 in
    let a : length t3 ≤ 5 + 64 + 0 = field_short key_key k [] 64 h.key in
    let b : length t2 ≤ 4 + 250 + length t3 = field_short id_key i t3 250 h.id in
    let c : length (field peer_key p t2) ≤ 6 + 64 + length t2 = field_short peer_key p t2 64 h.peer in
    omega (arith, a, b, c)

word_short : (word : Word) → length (word_text word) ≤ 11
word_short ForStatus = omega arith
word_short ForJson = omega arith
word_short ForRetry = omega arith
word_short ForVerbose = omega arith
word_short ForQuiet = omega arith
word_short ForReopen = omega arith
word_short ForHold = omega arith
word_short ForRelease = omega arith
word_short ForPurge = omega arith
word_short ForDrop = omega arith
word_short ForTakeIn = omega arith
word_short ForReload = omega arith

text_short : (r : Request) → HasForms r → length (request_text r) ≤ 1024
text_short r h =
    let fields = fields_text (texts_for r) in
    let most : length fields ≤ 400 =
    subst (λ t. length (fields_text t) ≤ 400) (sym (shape r))
    (fields_short_by _ _ _ (subst IsShortAll (shape r) (short_all r h))) in
    let one : length (fields ++ 10 ∷ []) ≡ length fields + 1 = length-append fields (10 ∷ []) in
    omega (arith, word_short (word_of r), most, one, length-append (word_text (word_of r)) (fields ++ 10 ∷ []))

-- a line and its LF
line_found : (line : List ℕ) → line_of (line ++ 10 ∷ []) ≡ Some line
line_found line =
    let len : length (line ++ 10 ∷ []) ≡ length line + 1 = length-append line (10 ∷ []) in
    let before : length (line ++ 10 ∷ []) - 1 ≡ length line = omega (arith, len) in
    let none : length line - length line ≡ 0 = omega arith in
    let some : nat_lt 0 (length (line ++ 10 ∷ [])) ≡ true = lt-ltb 0 (length (line ++ 10 ∷ [])) (omega (arith, len)) in
    let last : get_or (line ++ 10 ∷ []) (length (line ++ 10 ∷ []) - 1) 0 ≡ 10 =
    ap (λ n. get_or (line ++ 10 ∷ []) n 0) before
    ∙ get_or-append_right line (10 ∷ []) (length line) (length line) 0 refl (omega arith)
    ∙ ap (λ n. get_or (10 ∷ []) n 0) none in
    let test : eqb (get_or (line ++ 10 ∷ []) (length (line ++ 10 ∷ []) - 1) 0) 10 ≡ true = eq-eqb _ 10 last in
    let both = and_from (nat_lt 0 (length (line ++ 10 ∷ [])))
    (eqb (get_or (line ++ 10 ∷ []) (length (line ++ 10 ∷ []) - 1) 0) 10) some test in
    let cut : take (length (line ++ 10 ∷ []) - 1) (line ++ 10 ∷ []) ≡ line =
    take_at line (10 ∷ []) (length (line ++ 10 ∷ []) - 1) (sym before) in
    rw both (ap Some cut)

pub written_is_read : (r : Request) → HasForms r → request_in (request_text r) ≡ Ok r
written_is_read r h =
    let word = word_text (word_of r) in
    let fields = fields_text (texts_for r) in
    let line = word ++ fields in
    let short : nat_le (length (request_text r)) longest_request ≡ true =
    le-leb (length (request_text r)) longest_request (text_short r h) in
    let found : line_of (request_text r) ≡ Some line =
    ap line_of (sym (append_assoc word fields (10 ∷ []))) ∙ line_found line in
    let end : length word ≡ end_of line = sym (end_is word fields (word_solid (word_of r)) (fields_stop r)) in
    let first : take (end_of line) line ≡ word = take_at word fields (end_of line) end in
    let last : drop (end_of line) line ≡ fields = drop_at word fields (end_of line) end in
    let named : word_in (take (end_of line) line) ≡ Some (word_of r) = ap word_in first ∙ word_found (word_of r) in
    let texts : texts_in (drop (end_of line) line) ≡ texts_for r = ap texts_in last ∙ fields_read r h in
    let asked : asked_by (word_in (take (end_of line) line)) (texts_in (drop (end_of line) line)) ≡ Ok r =
    ap (λ o. asked_by o (texts_in (drop (end_of line) line))) named
    ∙ ap (λ t. asked_by (Some (word_of r)) t) texts
    ∙ ap (λ f. unless f (built (word_of r) (texts_for r))) (faultless r h)
    ∙ ap Ok (built_again r h) in
    rw short (ap line_asks found ∙ asked)
