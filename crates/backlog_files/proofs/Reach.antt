-- How far the lines of a file were taken in.
use Rattle.std.specs.Prelude.{◌≡◌, ◌↔◌, ◌+◌, ◌⊎◌, ◌<◌, ℕ, Bool, List, [], ◌∷◌, ◌++◌, Option, Some, None, IsTrue, length, map, nat_lt, refl}
use Rattle.std.proofs.Common.{sym, ◌∙◌, ap, subst, arith, inl}
use Rattle.std.proofs.KnownBytes.{Consumes-nil, Consumes-trans}
use Rattle.std.proofs.lemmas.List.{append_assoc, append-nil, length-append, length-map, map_push}
use Rattle.std.proofs.lemmas.List.Concat.{flat_map-append}
use Rattle.std.specs.Io.KnownBytes.{Consumes, IsAtEnd}
use Rattle.std.specs.declared.io.traits.Read.{Ghosts}
use Rattle.funnel.specs.Stream.{Splits, clipped, ended}
use Rattle.funnel_files.specs.Lines.{HasGiven, left_of, reader_of}
use Rattle.funnel_files.specs.declared.line_file.LineFile.{LineFile}
use Rattle.ledger_core.specs.State.{State, after}
use Rattle.ledger_core.specs.declared.note.Note.{Note}
use Rattle.peer_queue.specs.declared.fault.StationFault.{StationFault}
use Rattle.backlog_files.specs.Imports.{Begins, EndsBy, Goes_on, Imports, TakesIn, TakesLine, TakesSome, closed}
use Rattle.backlog_files.specs.Imports.{no_line}
use Rattle.backlog_files.specs.declared.fault.ImportFault.{ImportFault}
use Rattle.backlog_files.specs.declared.fault.ImportFault.TheVariants.{Station, Unread}
use Rattle.backlog_files.specs.declared.import_report.ImportReport.{ImportReport}

-- one more line
line_more : (begun now next : State) (number next_number : ℕ) (before report : ImportReport) (given : List (List ℕ))
    (line kept : List ℕ) (notes : List Note) → Imports begun (map clipped given) now before → number ≡ length given
    → next_number ≡ number + 1 → kept ≡ clipped line → TakesLine now next_number kept before notes report
    → next ≡ after now notes → Imports begun (map clipped (given ++ line ∷ [])) next report
line_more begun now next number next_number before report given line kept notes imports counted raised is takes ends =
    let long : length (map clipped given) ≡ length given = length-map given clipped in
    let same : next_number ≡ length (map clipped given) + 1 = omega (arith, long, counted, raised) in
    let there : TakesLine now (length (map clipped given) + 1) (clipped line) before notes report =
    subst (λ octets. TakesLine now (length (map clipped given) + 1) octets before notes report) is
    (subst (λ n. TakesLine now n kept before notes report) same takes) in
    let more = Goes_on (map clipped given) now before report (clipped line) notes imports there in
    subst (λ lines. Imports begun lines next report) (sym (map_push clipped given line))
    (subst (λ state. Imports begun (map clipped given ++ clipped line ∷ []) state report) (sym ends) more)

-- what was read is all that there was
all_read : (octets read : List ℕ) (left : Option (List ℕ)) → Consumes (Some octets) left read → IsAtEnd left
    → octets ≡ read
all_read octets read None c end = absurd c
all_read octets read (Some rest) c end = c ∙ ap (λ l. read ++ l) end ∙ append-nil read

-- the lines that were given are the first of all
behind_given : (octets read : List ℕ) (given more : List (List ℕ)) (rest : List ℕ) (left : Option (List ℕ))
    → Consumes (Some octets) left read → Splits read (given ++ more) rest
    → (behind : List ℕ) × (octets ≡ ended given ++ behind)
behind_given octets read given more rest None c splits = absurd c
behind_given octets read given more rest (Some later) c splits = (
  ended more ++ rest ++ later,
  c ∙ ap (λ l. l ++ later) (splits.whole ∙ ap (λ l. l ++ rest) (flat_map-append (λ line. line ++ 10 ∷ []) given more)
      ∙ append_assoc (ended given) (ended more) rest)
      ∙ append_assoc (ended given) (ended more ++ rest) later,
)

module _ {R : Type 0} {g : Ghosts R} where
  -- These lines of the octets were given, and taken in.
  pub record Reaches (octets : List ℕ) (begun now : State) (number : ℕ) (report : ImportReport) (file : LineFile R g) :
      Type 0 where
    pub read : List ℕ
    pub given : List (List ℕ)
    pub stands : HasGiven file read given
    pub consumed : Consumes (Some octets) (left_of file) read
    pub imports : Imports begun (map clipped given) now report
    pub counted : number ≡ length given

  -- before the first line
  pub reaches_none : (octets : List ℕ) (begun : State) (number : ℕ) (report : ImportReport) (file : LineFile R g)
      → HasGiven file [] [] → left_of file ≡ Some octets → number ≡ 0 → report ≡ no_line
      → Reaches octets begun begun number report file
  reaches_none octets begun number report file stands known zero none = record {
    read = [];
    given = [];
    stands = stands;
    consumed = subst (λ left. Consumes (Some octets) left []) (sym known) (Consumes-nil (Some octets));
    imports = subst (λ r. Imports begun [] begun r) (sym none) Begins;
    counted = zero;
  }

  -- one more line was given and taken
  pub reaches_line : (octets : List ℕ) (begun now next : State) (number next_number : ℕ) (before report : ImportReport)
      (file new : LineFile R g) (kept : List ℕ) → Reaches octets begun now number before file
      → ((read : List ℕ) (given : List (List ℕ)) → HasGiven file read given
      → (line : List ℕ) × (kept ≡ clipped line) × HasGiven new read (given ++ line ∷ []))
      → reader_of new ≡ reader_of file → next_number ≡ number + 1
      → (notes : List Note) × TakesLine now next_number kept before notes report × (next ≡ after now notes)
      → Reaches octets begun next next_number report new
  reaches_line octets begun now next number next_number before report file new kept r gives same raised took =
      let line = gives r.read r.given r.stands in
      let c = r.counted in
      record {
        read = r.read;
        given = r.given ++ line.0 ∷ [];
        stands = line.2;
        consumed = subst (λ reader. Consumes (Some octets) (g.remaining reader) r.read) (sym same) r.consumed;
        imports = line_more begun now next number next_number before report r.given line.0 kept took.0 r.imports c raised
            line.1 took.1 took.2;
        counted = omega (arith, length-append r.given (line.0 ∷ []), c, raised);
      }

  -- nothing more was given, and one more piece was read
  pub reaches_piece : (octets : List ℕ) (begun now : State) (number : ℕ) (report : ImportReport)
      (file new : LineFile R g) (piece : List ℕ) → Reaches octets begun now number report file
      → Consumes (left_of file) (left_of new) piece
      → ((read : List ℕ) (given : List (List ℕ)) → HasGiven file read given → HasGiven new (read ++ piece) given)
      → Reaches octets begun now number report new
  reaches_piece octets begun now number report file new piece r consumes keeps = record {
    read = r.read ++ piece;
    given = r.given;
    stands = keeps r.read r.given r.stands;
    consumed = Consumes-trans (Some octets) (left_of file) (left_of new) r.read piece r.consumed consumes;
    imports = r.imports;
    counted = r.counted;
  }

  -- a file of which nothing more is given
  pub reaches_same : (octets : List ℕ) (begun now : State) (number : ℕ) (report : ImportReport) (file new : LineFile R g)
      → Reaches octets begun now number report file
      → ((read : List ℕ) (given : List (List ℕ)) → HasGiven file read given
      → HasGiven new read given × ((rest : List ℕ) × Splits read given rest))
      → reader_of new ≡ reader_of file
      → (reached : Reaches octets begun now number report new)
      × ((rest : List ℕ) × Splits reached.read reached.given rest)
  reaches_same octets begun now number report file new r none same =
      let all = none r.read r.given r.stands in (
        record {
          read = r.read;
          given = r.given;
          stands = all.0;
          consumed = subst (λ reader. Consumes (Some octets) (g.remaining reader) r.read) (sym same) r.consumed;
          imports = r.imports;
          counted = r.counted;
        },
        all.1,
      )

  -- at the end of what there is to read, all its lines were taken in
  pub reaches_end : (octets : List ℕ) (begun now next : State) (number : ℕ) (report : ImportReport) (has_rest : Bool)
      (file new : LineFile R g) (piece : List ℕ) (reached : Reaches octets begun now number report file)
      → ((rest : List ℕ) × Splits reached.read reached.given rest)
      → Consumes (left_of file) (left_of new) piece → IsAtEnd (left_of new) → piece ≡ []
      → ((read : List ℕ) (given : List (List ℕ)) → HasGiven file read given → HasGiven new (read ++ piece) given)
      → next ≡ closed now
      → ((read : List ℕ) (given : List (List ℕ)) (rest : List ℕ) → HasGiven new read given → Splits read given rest
      → has_rest ≡ nat_lt 0 (length rest))
      → TakesIn octets begun next (record report { has_rest = has_rest })
  reaches_end octets begun now next number report has_rest file new piece r whole consumes end empty keeps ends shows =
      let read : r.read ++ piece ≡ r.read = ap (λ l. r.read ++ l) empty ∙ append-nil r.read in
      let all : octets ≡ r.read =
      all_read octets (r.read ++ piece) (left_of new)
      (Consumes-trans (Some octets) (left_of file) (left_of new) r.read piece r.consumed consumes) end
      ∙ read in
      let stands : HasGiven new r.read r.given =
      subst (λ l. HasGiven new l r.given) read (keeps r.read r.given r.stands) in
      record {
        lines = r.given;
        rest = whole.0;
        splits = subst (λ l. Splits l r.given whole.0) (sym all) whole.1;
        past = now;
        counts = report;
        imports = r.imports;
        ends = ends;
        reports = ap (λ b. record report { has_rest = b }) (shows r.read r.given whole.0 stands whole.1);
      }

  -- wherever it stops, the first lines were taken in
  pub reaches_some : (octets : List ℕ) (begun now next : State) (number : ℕ) (report : ImportReport)
      (fault : ImportFault) (file : LineFile R g) → Reaches octets begun now number report file → EndsBy fault now next
      → TakesSome octets begun next fault
  reaches_some octets begun now next number report fault file r ends =
      let stands = r.stands.stands in
      let behind = behind_given octets r.read r.given stands.lines stands.rest (left_of file) r.consumed stands.splits in
      record {
        lines = r.given;
        behind = behind.0;
        parts = behind.1;
        past = now;
        counts = report;
        imports = r.imports;
        ends = ends;
      }

-- whatever the fault, the source may be open still
pub ends_open : (fault : ImportFault) (now next : State) → next ≡ now → EndsBy fault now next
ends_open (Unread reason) now next same = same
ends_open (Station fault) now next same = inl same

-- a station that refused may have noted that the source is closed
pub ends_refused : (fault : ImportFault) (refused : StationFault) (now next : State) → fault ≡ Station refused
    → (next ≡ now) ⊎ (next ≡ closed now) → EndsBy fault now next
ends_refused fault refused now next is ends = subst (λ f. EndsBy f now next) (sym is) ends

-- an empty piece says that nothing more is there
pub empty_piece : (piece : List ℕ) (some : Bool) → (IsTrue some ↔ 0 < length piece) → (IsTrue some → ⊥) → piece ≡ []
empty_piece [] some there none = refl
empty_piece (octet ∷ octets) some there none = absurd (none (there.1 (omega arith)))
