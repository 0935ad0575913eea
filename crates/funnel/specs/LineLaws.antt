-- Laws of funnel lines: a line has one reading, or else one fault.
use Rattle.std.specs.Prelude.{◌≡◌, ◌≢◌, ◌<◌, ◌≤◌, ◌⊎◌, ◌↔◌, ℕ, true, false, cond, List, [], ◌∷◌, length, Option, Some}
use Rattle.std.specs.Prelude.{None, Result, Err, refl, IsTrue, IsErrOf, filter}
use Rattle.std.proofs.Common.{sym, ◌∙◌, ap, subst, arith, inl, inr}
use Rattle.funnel.specs.declared.line.LineFault.{LineFault}
use Rattle.funnel.specs.declared.line.LineFault.TheVariants.{NoToken, BadToken, BadId, TooLong, NoMemory}
use Rattle.funnel.specs.Line.{IsBacklogLine, IsFunnelLine, HasFault, LacksId, longest_line, without_cr}
use Rattle.funnel.specs.Names.{is_msg_id, is_token, is_peer_name}
use Rattle.funnel.specs.Words.{HasWords, IsFirstWord, IsGap}
use Rattle.funnel.specs.WordLaws.{has_words, words_from_first, words_once}

-- The line's own fault: the line has it, and it is not for want of memory.
pub record IsFaultOf (line : List ℕ) (fault : LineFault) : Type 0 where
  pub has : HasFault line fault
  pub own : fault ≢ NoMemory

-- A line cut into its token, its message-id and what follows them.
pub record HasParts (line token id others : List ℕ) : Type 0 where
  pub behind : List ℕ
  pub short : length line ≤ longest_line
  pub first : IsFirstWord (without_cr line) token behind
  pub second : IsFirstWord behind id others
  pub token_form : IsTrue (is_token token)
  pub id_form : IsTrue (is_msg_id id)

-- The names of peers among the words of the text, in order.
pub record HasPeers (text : List ℕ) (peers : List (List ℕ)) : Type 0 where
  pub words : List (List ℕ)
  pub has : HasWords text words
  pub named : peers ≡ filter is_peer_name words

-- what is wrong after a token
abbrev pub fault_behind : List (List ℕ) → Option LineFault
fault_behind [] = Some BadId
fault_behind (word ∷ words) = cond (is_msg_id word) None (Some BadId)

-- what is wrong with the words of a line
abbrev pub fault_among : List (List ℕ) → Option LineFault
fault_among [] = Some NoToken
fault_among (word ∷ words) = cond (is_token word) (fault_behind words) (Some BadToken)

-- the line is not too long, and this is wrong with its words
pub record IsShort (line : List ℕ) (found : Option LineFault) : Type 0 where
  pub short : length line ≤ longest_line
  pub words : List (List ℕ)
  pub has : HasWords (without_cr line) words
  pub among : fault_among words ≡ found

lacks_id : (words : List (List ℕ)) → LacksId words → fault_behind words ≡ Some BadId
lacks_id [] h = refl
lacks_id (word ∷ words) h = rw h refl

fault_cases : (line : List ℕ) (fault : LineFault) → IsFaultOf line fault → ((longest_line < length line) × (fault ≡ TooLong)) ⊎ IsShort line (Some fault)
fault_cases line TooLong f = inl (f.has, refl)
fault_cases line NoToken f = inr (record { short = f.has.0; words = []; has = f.has.1; among = refl })
fault_cases line BadToken f =
    let h = f.has in
    inr (record { short = h.0; words = h.1 ∷ h.2; has = h.3; among = rw h.4 refl })
fault_cases line BadId f =
    let h = f.has in
    inr (record { short = h.0; words = h.1 ∷ h.2; has = h.3; among = rw h.4 (lacks_id h.2 h.5) })
fault_cases line NoMemory f = absurd (f.own refl)

good_short : (line token id : List ℕ) (peers : List (List ℕ)) → IsFunnelLine line token id peers → IsShort line None
good_short line token id peers g = record {
  short = g.short;
  words = token ∷ id ∷ g.others;
  has = g.words;
  among = rw (g.token_form, g.id_form) refl;
}

short_once : (line : List ℕ) (a b : Option LineFault) → IsShort line a → IsShort line b → a ≡ b
short_once line a b s t =
    let same = words_once (without_cr line) s.words t.words s.has t.has in
    sym s.among ∙ ap fault_among same ∙ t.among

-- a line has one fault of its own
pub fault_once : (line : List ℕ) (a b : LineFault) → IsFaultOf line a → IsFaultOf line b → a ≡ b
fault_once line a b f g =
    elim (fault_cases line a f) [
      | inl x ↦ elim (fault_cases line b g) [ inl y ↦ x.1 ∙ sym y.1 | inr y ↦ absurd (omega (arith, x.0, y.short)) ]
      | inr x ↦ elim (fault_cases line b g) [
        | inl y ↦ absurd (omega (arith, x.short, y.0))
        | inr y ↦ (let e : Some a ≡ Some b = short_once line (Some a) (Some b) x y in cc)
      ]
    ]

-- a good line has no fault of its own
pub good_faultless : (line token id : List ℕ) (peers : List (List ℕ)) (fault : LineFault) → IsFunnelLine line token id peers → IsFaultOf line fault → ⊥
good_faultless line token id peers fault g f =
    elim (fault_cases line fault f) [
      | inl x ↦ omega (arith, x.0, g.short)
      | inr x ↦ (let e : None ≡ Some fault = short_once line None (Some fault) (good_short line token id peers g) x in cc)
    ]

-- a line has one reading
pub line_once : (line token id token' id' : List ℕ) (peers peers' : List (List ℕ)) → IsFunnelLine line token id peers → IsFunnelLine line token' id' peers'
    → (token ≡ token') × (id ≡ id') × (peers ≡ peers')
line_once line token id token' id' peers peers' g h =
    let same : (token ∷ id ∷ g.others) ≡ (token' ∷ id' ∷ h.others) = words_once (without_cr line) _ _ g.words h.words in
    let others : g.others ≡ h.others = cc in
    (cc, cc, g.named ∙ ap (filter is_peer_name) others ∙ sym h.named)

-- a funnel line is also a line of a backlog file, of the same article
pub backlog_from_funnel : (line token id : List ℕ) (peers : List (List ℕ)) → IsFunnelLine line token id peers
    → IsBacklogLine line token id
backlog_from_funnel line token id peers g = record {
  others = g.others;
  short = g.short;
  words = g.words;
  token_form = g.token_form;
  id_form = g.id_form;
}

-- and each line of a backlog file is a funnel line, of some peers
pub funnel_from_backlog : (line token id : List ℕ) → IsBacklogLine line token id
    → (peers : List (List ℕ)) × IsFunnelLine line token id peers
funnel_from_backlog line token id g = (
  filter is_peer_name g.others,
  record {
    others = g.others;
    short = g.short;
    words = g.words;
    token_form = g.token_form;
    id_form = g.id_form;
    named = refl;
  },
)

-- it has one reading
pub backlog_once : (line token id token' id' : List ℕ) → IsBacklogLine line token id → IsBacklogLine line token' id'
    → (token ≡ token') × (id ≡ id')
backlog_once line token id token' id' g h =
    let one = funnel_from_backlog line token id g in
    let other = funnel_from_backlog line token' id' h in
    let same = line_once line token id token' id' one.0 other.0 one.1 other.1 in
    (same.0, same.1)

-- A call that returns the line's own fault returns no other, and does so for each fault that the line has.
pub refused : {T : Type 0} (line : List ℕ) (r : Result T LineFault) (a b : LineFault) → r ≡ Err a → IsFaultOf line a → b ≢ NoMemory → IsErrOf r b ↔ HasFault line b
refused {T} line r a b is f own = (
  λ e. let same : a ≡ b = cc in subst (λ fault. HasFault line fault) same f.has,
  λ h. is ∙ ap (λ fault. Err fault) (fault_once line a b f (record { has = h; own = own })),
)

-- A call that reports no fault of a good line is right.
pub unrefused : {T : Type 0} (line token id : List ℕ) (peers : List (List ℕ)) (r : Result T LineFault) (b : LineFault) → IsFunnelLine line token id peers
    → b ≢ NoMemory → (IsErrOf r b → ⊥) → IsErrOf r b ↔ HasFault line b
unrefused line token id peers r b g own other =
    (λ e. absurd (other e), λ h. absurd (good_faultless line token id peers b g (record { has = h; own = own })))

pub parts_good : (line token id others : List ℕ) (peers : List (List ℕ)) → HasParts line token id others → HasPeers others peers → IsFunnelLine line token id peers
parts_good line token id others peers p h = record {
  others = h.words;
  short = p.short;
  words = words_from_first (without_cr line) token p.behind (id ∷ h.words) p.first (words_from_first p.behind id others h.words p.second h.has);
  token_form = p.token_form;
  id_form = p.id_form;
  named = h.named;
}

pub long_fault : (line : List ℕ) → longest_line < length line → IsFaultOf line TooLong
long_fault line long = record { has = long; own = λ e. cc }

pub gap_fault : (line : List ℕ) → length line ≤ longest_line → IsGap (without_cr line) → IsFaultOf line NoToken
gap_fault line short gap = record { has = (short, gap); own = λ e. cc }

pub token_fault : (line token behind : List ℕ) → length line ≤ longest_line → IsFirstWord (without_cr line) token behind → is_token token ≡ false → IsFaultOf line BadToken
token_fault line token behind short first bad =
    let others = has_words behind in
    record { has = (short, token, others.0, words_from_first (without_cr line) token behind others.0 first others.1, bad); own = λ e. cc }

pub no_id_fault : (line token behind : List ℕ) → length line ≤ longest_line → IsFirstWord (without_cr line) token behind → IsTrue (is_token token) → IsGap behind → IsFaultOf line BadId
no_id_fault line token behind short first form gap =
    record { has = (short, token, [], words_from_first (without_cr line) token behind [] first gap, form, tt); own = λ e. cc }

pub id_fault : (line token behind id others : List ℕ) → length line ≤ longest_line → IsFirstWord (without_cr line) token behind → IsTrue (is_token token)
    → IsFirstWord behind id others → is_msg_id id ≡ false → IsFaultOf line BadId
id_fault line token behind id others short first form second bad =
    let words = has_words others in
    let all = words_from_first behind id others words.0 second words.1 in
    record { has = (short, token, id ∷ words.0, words_from_first (without_cr line) token behind (id ∷ words.0) first all, form, bad); own = λ e. cc }

-- a line with its parts is good: it has a reading
pub parts_read : (line token id others : List ℕ) → HasParts line token id others → (peers : List (List ℕ)) × IsFunnelLine line token id peers
parts_read line token id others p =
    let words = has_words others in
    (filter is_peer_name words.0, parts_good line token id others _ p (record { words = words.0; has = words.1; named = refl }))

pub parts_backlog : (line token id others : List ℕ) → HasParts line token id others → IsBacklogLine line token id
parts_backlog line token id others p =
    let read = parts_read line token id others p in
    backlog_from_funnel line token id read.0 read.1

pub peers_first : (text word rest : List ℕ) (peers : List (List ℕ)) → IsFirstWord text word rest → is_peer_name word ≡ true → HasPeers rest peers → HasPeers text (word ∷ peers)
peers_first text word rest peers first form h = record {
  words = word ∷ h.words;
  has = words_from_first text word rest h.words first h.has;
  named = rw form (ap (λ names. word ∷ names) h.named);
}

pub peers_passed : (text word rest : List ℕ) (peers : List (List ℕ)) → IsFirstWord text word rest → is_peer_name word ≡ false → HasPeers rest peers → HasPeers text peers
peers_passed text word rest peers first form h = record {
  words = word ∷ h.words;
  has = words_from_first text word rest h.words first h.has;
  named = rw form h.named;
}

pub peers_none : (text : List ℕ) → IsGap text → HasPeers text []
peers_none text gap = record { words = []; has = gap; named = refl }
