-- Lines that have an article, and lines that have none.
use Rattle.std.proofs.Common.{◌≡◌, ◌≢◌, ◌<◌, ◌≤◌, ℕ, List, Option, Some, None, Result, Ok, Err, false, length}
use Rattle.std.proofs.Common.{refl, sym, subst, arith}
use Rattle.std.specs.Prelude.{◌↔◌, IfNone, IfOk, IfSome, IsErrOf, IsTrue, filter}
use Rattle.funnel.specs.Line.{HasFault, IsBacklogLine, IsFunnelLine, longest_line}
use Rattle.funnel.specs.LineLaws.{good_faultless}
use Rattle.funnel.specs.Names.{is_peer_name}
use Rattle.funnel.specs.WordLaws.{first_word_once, gap_no_word}
use Rattle.funnel.specs.Words.{IsFirstWord, IsGap}
use Rattle.funnel.specs.declared.line.LineFault.{LineFault}
use Rattle.funnel.specs.declared.line.LineFault.TheVariants.{BadId, BadToken, NoMemory, NoToken, TooLong}
use Rattle.owed_list.specs.Texts.{IsNoArticle, IsNoUnknownLine, IsUnknownLine}

-- a malformed line has the fault that is returned
has_fault : {T : Type 0} (fault : LineFault) (line : List ℕ) (result : Result T LineFault) → result ≡ Err fault →
    (IsErrOf result TooLong ↔ HasFault line TooLong) → (IsErrOf result NoToken ↔ HasFault line NoToken) →
    (IsErrOf result BadToken ↔ HasFault line BadToken) → (IsErrOf result BadId ↔ HasFault line BadId) →
    HasFault line fault
has_fault TooLong line result is long none token id = long.0 is
has_fault NoToken line result is long none token id = none.0 is
has_fault BadToken line result is long none token id = token.0 is
has_fault BadId line result is long none token id = id.0 is
has_fault NoMemory line result is long none token id = tt

-- so it has no article
pub no_article : {T : Type 0} (fault : LineFault) (line : List ℕ) (result : Result T LineFault) → result ≡ Err fault →
    (IsErrOf result TooLong ↔ HasFault line TooLong) → (IsErrOf result NoToken ↔ HasFault line NoToken) →
    (IsErrOf result BadToken ↔ HasFault line BadToken) → (IsErrOf result BadId ↔ HasFault line BadId) →
    fault ≢ NoMemory → IsNoArticle line
no_article fault line result is long none bad_token bad_id other = λ token id good.
    let read : IsFunnelLine line token id (filter is_peer_name good.others) = record {
      others = good.others;
      short = good.short;
      words = good.words;
      token_form = good.token_form;
      id_form = good.id_form;
      named = refl;
    } in
    good_faultless line token id (filter is_peer_name good.others) fault read (record {
      has = has_fault fault line result is long none bad_token bad_id;
      own = other;
    })

pub too_long : (line : List ℕ) → longest_line < length line → IsNoUnknownLine line
too_long line long = λ name token id is. absurd (omega (arith, long, is.short))

pub no_word : (line : List ℕ) → IsGap line → IsNoUnknownLine line
no_word line gap = λ name token id is. gap_no_word line name is.rest gap is.first

pub no_name : (line word rest : List ℕ) → IsFirstWord line word rest → is_peer_name word ≡ false → IsNoUnknownLine line
no_name line word rest first other = λ name token id is.
    let same = first_word_once line word rest name is.rest first is.first in
    let form = subst (λ (n : List ℕ). IsTrue (is_peer_name n)) (sym same.0) is.name_form in
    let never : IsTrue false = subst IsTrue other form in
    cc

pub no_article_behind : (line word rest : List ℕ) → IsFirstWord line word rest → IsNoArticle rest → IsNoUnknownLine line
no_article_behind line word rest first none = λ name token id is.
    let same = first_word_once line word rest name is.rest first is.first in
    none token id (subst (λ (r : List ℕ). IsBacklogLine r token id) (sym same.1) is.article)

pub article_behind : (line word rest name token id : List ℕ) → length line ≤ longest_line → IsFirstWord line word rest →
    IsTrue (is_peer_name word) → (name ≡ word) × IsBacklogLine rest token id → IsUnknownLine line name token id
article_behind line word rest name token id short first form (is, article) =
    record {
      rest = rest;
      short = short;
      first = subst (λ (n : List ℕ). IsFirstWord line n rest) (sym is) first;
      name_form = subst (λ (n : List ℕ). IsTrue (is_peer_name n)) (sym is) form;
      article = article;
    }

-- the same of a call that may be refused
pub found_goes : {A E : Type 0} (result : Result (Option A) E) (P Q : A → Type 0) → ((a : A) → P a → Q a) →
    IfOk result (λ found. IfSome found P) → IfOk result (λ found. IfSome found Q)
found_goes (Ok (Some a)) P Q goes h = goes a h
found_goes (Ok None) P Q goes h = tt
found_goes (Err e) P Q goes h = tt

pub missing_goes : {A E : Type 0} (result : Result (Option A) E) (P Q : Type 0) → (P → Q) →
    IfOk result (λ found. IfNone found P) → IfOk result (λ found. IfNone found Q)
missing_goes (Ok (Some a)) P Q goes h = tt
missing_goes (Ok None) P Q goes h = goes h
missing_goes (Err e) P Q goes h = tt
