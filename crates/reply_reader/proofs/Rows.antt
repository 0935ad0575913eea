-- Worked examples of the definitions.
use Rattle.std.specs.Prelude.{◌≡◌, ◌≢◌, ℕ, Some, None, List, [], ◌∷◌, ◌++◌, codes, refl}
use Rattle.std.proofs.Common.{arith, lit<, lit≤, inl, inr}
use Rattle.std.proofs.lemmas.List.Elements.{All-from_recursion}
use Rattle.funnel.specs.Stream.{IsUnended}
use Rattle.funnel.specs.Words.{HasWords}
use Rattle.reply_reader.specs.Reply.{BeginsWithCode, IsNoReply, IsReplyLine}
use Rattle.reply_reader.specs.Stream.{Reads, StandsFor, Broken}

text_words : HasWords (codes " ok") (codes "ok" ∷ [])
text_words = (codes " ", [], refl, refl, record { some = lit< tt; solid = refl }, tt, refl)

id_alone : HasWords (codes "<x@y>") (codes "<x@y>" ∷ [])
id_alone = ([], [], refl, refl, record { some = lit< tt; solid = refl }, tt, refl)

-- a code, a message-id, and more
takethis_line : IsReplyLine (codes "238 <x@y> ok") 238 (Some (codes "<x@y>")) (codes "<x@y> ok")
takethis_line = record {
  rest = codes " <x@y> ok";
  begins = record { first = 50; second = 51; third = 56; reads = refl; digits = ((lit≤ tt, lit≤ tt), (lit≤ tt, lit≤ tt), (lit≤ tt, lit≤ tt)); value = refl };
  names = (codes "ok" ∷ [], (codes " ", codes " ok", refl, refl, record { some = lit< tt; solid = refl }, refl, text_words), refl);
  says = inl refl;
}

-- the same before CR and LF
takethis_line_cr : IsReplyLine (codes "238 <x@y> ok" ++ 13 ∷ []) 238 (Some (codes "<x@y>")) (codes "<x@y> ok")
takethis_line_cr = record {
  rest = takethis_line.rest;
  begins = takethis_line.begins;
  names = takethis_line.names;
  says = takethis_line.says;
}

-- a code alone
code_alone : IsReplyLine (codes "200") 200 None []
code_alone = record {
  rest = [];
  begins = record { first = 50; second = 48; third = 48; reads = refl; digits = ((lit≤ tt, lit≤ tt), (lit≤ tt, lit≤ tt), (lit≤ tt, lit≤ tt)); value = refl };
  names = ([], refl, tt);
  says = inr (refl, λ e. cc);
}

-- nothing between the code and the message-id
no_space : IsReplyLine (codes "438<x@y>") 438 (Some (codes "<x@y>")) (codes "<x@y>")
no_space = record {
  rest = codes "<x@y>";
  begins = record { first = 52; second = 51; third = 56; reads = refl; digits = ((lit≤ tt, lit≤ tt), (lit≤ tt, lit≤ tt), (lit≤ tt, lit≤ tt)); value = refl };
  names = ([], id_alone, refl);
  says = inr (refl, λ e. cc);
}

-- four digits: the last is a word of its own
four_digits : IsReplyLine (codes "4380 <x@y>") 438 None (codes "0 <x@y>")
four_digits = record {
  rest = codes "0 <x@y>";
  begins = record { first = 52; second = 51; third = 56; reads = refl; digits = ((lit≤ tt, lit≤ tt), (lit≤ tt, lit≤ tt), (lit≤ tt, lit≤ tt)); value = refl };
  names = (
    codes "0" ∷ codes "<x@y>" ∷ [],
    ([], codes " <x@y>", refl, refl, record { some = lit< tt; solid = refl }, refl, (codes " ", [], refl, refl, record { some = lit< tt; solid = refl }, tt, refl)),
    refl,
  );
  says = inr (refl, λ e. cc);
}

third_is_space : (code : ℕ) (rest : List ℕ) → BeginsWithCode (codes "20 x") code rest → ⊥
third_is_space code rest p =
    let reads = p.reads in
    let space : p.third ≡ 32 = cc in
    omega (arith, space, p.digits.2.0)

-- two digits
two_digits : IsNoReply (codes "20 x")
two_digits = third_is_space

code_octets : IsUnended (codes "200")
code_octets = All-from_recursion (λ octet. octet ≢ 10) (codes "200") (λ e. cc, (λ e. cc, (λ e. cc, tt)))

rest_octets : IsUnended (codes "20 x")
rest_octets = All-from_recursion (λ octet. octet ≢ 10) (codes "20 x") (λ e. cc, (λ e. cc, (λ e. cc, (λ e. cc, tt))))

-- a reply and a half
half_read : Reads (codes "200" ++ 10 ∷ codes "23") (record { code = 200; id = None; text = [] } ∷ []) (codes "23")
half_read = record { lines = codes "200" ∷ []; whole = refl; answers = ((record { line = code_octets; short = lit< tt }, code_alone), tt) }

-- a fault after a reply
fault_read : StandsFor Broken (codes "200" ++ 10 ∷ codes "20 x" ++ 10 ∷ []) (record { code = 200; id = None; text = [] } ∷ [])
fault_read = (
  codes "20 x" ++ 10 ∷ [],
  record { lines = codes "200" ∷ []; whole = refl; answers = ((record { line = code_octets; short = lit< tt }, code_alone), tt) },
  inr (codes "20 x", [], refl, record { line = rest_octets; short = lit< tt }, two_digits),
)
