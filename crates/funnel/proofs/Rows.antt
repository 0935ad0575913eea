-- Worked examples of the definitions.
use Rattle.std.specs.Prelude.{◌≡◌, ℕ, true, false, List, [], ◌∷◌, ◌++◌, codes, refl}
use Rattle.std.proofs.Common.{replicate, lit<, lit≤}
use Rattle.funnel.specs.Names.{is_msg_id, is_token, is_peer_name}
use Rattle.funnel.specs.Line.{IsFunnelLine, without_cr}
use Rattle.funnel.specs.Words.{HasWords}

-- message-ids
plain_id : is_msg_id (codes "<x@y>") ≡ true
plain_id = refl

empty_id : is_msg_id (codes "<>") ≡ false
empty_id = refl

opened_twice : is_msg_id (codes "<<>") ≡ true
opened_twice = refl

closed_twice : is_msg_id (codes "<a>b>") ≡ false
closed_twice = refl

longest_id : is_msg_id (codes "<" ++ replicate 248 97 ++ codes ">") ≡ true
longest_id = refl

too_long_id : is_msg_id (codes "<" ++ replicate 249 97 ++ codes ">") ≡ false
too_long_id = refl

-- tokens
plain_token : is_token (codes "a/1") ≡ true
plain_token = refl

slash_first : is_token (codes "/a") ≡ false
slash_first = refl

parent_inside : is_token (codes "a/../b") ≡ false
parent_inside = refl

parent_alone : is_token (codes "..") ≡ false
parent_alone = refl

parent_first : is_token (codes "../a") ≡ false
parent_first = refl

parent_last : is_token (codes "a/..") ≡ false
parent_last = refl

dots_inside : is_token (codes "a..b") ≡ true
dots_inside = refl

-- names of peers
short_name : is_peer_name (codes "p") ≡ true
short_name = refl

dotted_name : is_peer_name (codes "one.example") ≡ true
dotted_name = refl

underscore_first : is_peer_name (codes "_x") ≡ true
underscore_first = refl

dot_first : is_peer_name (codes ".x") ≡ false
dot_first = refl

no_name : is_peer_name [] ≡ false
no_name = refl

longest_name : is_peer_name (replicate 64 97) ≡ true
longest_name = refl

too_long_name : is_peer_name (replicate 65 97) ≡ false
too_long_name = refl

-- lines
abbrev three_peers : List (List ℕ)
three_peers = codes "p" ∷ codes "q" ∷ codes "p" ∷ []

peers_words : HasWords (codes " p q p") three_peers
peers_words = (
  codes " ",
  codes " q p",
  refl,
  refl,
  record { some = lit< tt; solid = refl },
  refl,
  (
    codes " ",
    codes " p",
    refl,
    refl,
    record { some = lit< tt; solid = refl },
    refl,
    (codes " ", [], refl, refl, record { some = lit< tt; solid = refl }, tt, refl),
  ),
)

id_words : HasWords (codes " <x@y> p q p") (codes "<x@y>" ∷ three_peers)
id_words = (codes " ", codes " p q p", refl, refl, record { some = lit< tt; solid = refl }, refl, peers_words)

line_words : HasWords (codes "a/1 <x@y> p q p") (codes "a/1" ∷ codes "<x@y>" ∷ three_peers)
line_words = ([], codes " <x@y> p q p", refl, refl, record { some = lit< tt; solid = refl }, refl, id_words)

spaced_words : HasWords (codes " a/1 <x@y> p q p") (codes "a/1" ∷ codes "<x@y>" ∷ three_peers)
spaced_words = (codes " ", codes " <x@y> p q p", refl, refl, record { some = lit< tt; solid = refl }, refl, id_words)

plain_line : IsFunnelLine (codes "a/1 <x@y> p q p") (codes "a/1") (codes "<x@y>") three_peers
plain_line = record { others = three_peers; short = lit≤ tt; words = line_words; token_form = refl; id_form = refl; named = refl }

space_first : IsFunnelLine (codes " a/1 <x@y> p q p") (codes "a/1") (codes "<x@y>") three_peers
space_first = record { others = three_peers; short = lit≤ tt; words = spaced_words; token_form = refl; id_form = refl; named = refl }

one_cr : without_cr (codes "a/1 <x@y> p q p" ++ 13 ∷ []) ≡ codes "a/1 <x@y> p q p"
one_cr = refl

line_with_cr : IsFunnelLine (codes "a/1 <x@y> p q p" ++ 13 ∷ []) (codes "a/1") (codes "<x@y>") three_peers
line_with_cr = record { others = three_peers; short = lit≤ tt; words = line_words; token_form = refl; id_form = refl; named = refl }

two_crs : without_cr (codes "a/1 <x@y> p q p" ++ 13 ∷ 13 ∷ []) ≡ codes "a/1 <x@y> p q p" ++ 13 ∷ []
two_crs = refl

cr_is_no_blank : is_peer_name (codes "p" ++ 13 ∷ []) ≡ false
cr_is_no_blank = refl

-- blanks
tab_between : HasWords (codes "p" ++ 9 ∷ codes "q") (codes "p" ∷ codes "q" ∷ [])
tab_between = (
  [],
  9 ∷ codes "q",
  refl,
  refl,
  record { some = lit< tt; solid = refl },
  refl,
  (9 ∷ [], [], refl, refl, record { some = lit< tt; solid = refl }, tt, refl),
)

blank_line : HasWords (32 ∷ 9 ∷ []) []
blank_line = refl
