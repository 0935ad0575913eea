-- What the calls under a front's lock come to.
use Rattle.std.proofs.Common.{◌≡◌, ℕ, ◌+◌, ◌-◌, ◌≤◌, max, true, false, List, [], ◌∷◌, ◌++◌, length, map}
use Rattle.std.proofs.Common.{refl, sym, ap, ◌∙◌, subst, arith, append_assoc, append-nil, length-append}
use Rattle.disk_model.specs.declared.Disk.{Ghosts}
use Rattle.ledger_core.specs.declared.note.Note.{Note}
use Rattle.sections.specs.Post.{StationPast}
use Rattle.sections.specs.Sections.OfStation.{Is_cut_off, Is_learnt, Is_noted, Is_sent}
use Rattle.sections.specs.Sections.Section.{Cuts_off, Learns, Notes, Sends}
use Rattle.sections.specs.Tapes.{AllAbove}
use Rattle.section_steps.specs.Stands.{FrontSeen, FrontStands, SideSeen, SideStands}
use Rattle.section_steps.specs.Steps.{DoAll, FrontDoes}

module _ {D : Type 0} (g : Ghosts D) (before : List Note) (last rank : ℕ) (was : StationPast) (old new : FrontSeen)
    (stands : FrontStands before old was) where
  -- nothing was pushed
  none_pushed : (side : SideSeen D g) (items : List Note) (station : StationPast)
      → SideStands before side items station → SideStands before side (items ++ []) station
  none_pushed side items station is =
      subst (λ (l : List Note). SideStands before side l station) (sym (append-nil items)) is

  -- at most the places changed
  pub does_nothing : new ≡ old → FrontDoes g before last rank was [] [] new
  does_nothing same = record {
    later = was;
    does = refl;
    front = subst (λ (f : FrontSeen). FrontStands before f was) (sym same) stands;
    side = λ side items is. none_pushed side items was is;
  }

  -- ---- notes are made

  pub noting : (station : StationPast) (notes : List Note) → station.runs ≡ true → station.cut_off ≡ false
      → AllAbove last notes
      → DoAll last rank station (map (Notes rank) notes) (record station { unsent = station.unsent ++ notes })
  noting station [] runs works above =
      ap (λ (l : List Note). record station { unsent = l }) (append-nil station.unsent)
  noting station (note ∷ notes) runs works above =
      let next : StationPast = record station { unsent = station.unsent ++ note ∷ [] } in (
        next,
        Is_noted rank note runs works above.0,
        subst (λ (l : List Note). DoAll last rank next (map (Notes rank) notes) (record station { unsent = l }))
            (append_assoc station.unsent (note ∷ []) notes)
            (noting next notes runs works above.1),
      )

  pub does_note : (notes : List Note) → old.broken ≡ false → AllAbove last notes
      → new ≡ record old { unsent = old.unsent ++ notes }
      → FrontDoes g before last rank was (map (Notes rank) notes) [] new
  does_note notes works above is =
      let later : StationPast = record was { unsent = was.unsent ++ notes } in
      record {
        later = later;
        does = noting was notes stands.runs (stands.cut_off ∙ works) above;
        front = subst (λ (f : FrontSeen). FrontStands before f later) (sym is) (record {
          runs = stands.runs;
          noted = stands.noted;
          unsent = ap (λ (l : List Note). l ++ notes) stands.unsent;
          settled = stands.settled;
          counted = stands.counted;
          cut_off = stands.cut_off;
        });
        side = λ side items one. none_pushed side items later (record {
          runs = one.runs;
          tape = one.tape;
          put = one.put;
          queue = one.queue;
        });
      }

  -- ---- a flush's answer

  settled_max : (opened settled count : ℕ) → max (opened + settled) (opened + count)
      ≡ opened + (settled + (count - settled))
  settled_max opened settled count = omega arith

  pub does_learn : (count : ℕ) → count ≤ old.settled + old.pending
      → was.tape.history.opened + count ≤ was.tape.history.kept
      → new ≡ record old {
        settled = old.settled + (count - old.settled);
        pending = old.pending - (count - old.settled);
      }
      → FrontDoes g before last rank was (Learns rank (was.tape.history.opened + count) ∷ []) [] new
  does_learn count few kept is =
      let opened = was.tape.history.opened in
      let later : StationPast = record was { settled = max was.settled (opened + count) } in
      record {
        later = later;
        does = (later, Is_learnt rank (opened + count) stands.runs kept, refl);
        front = subst (λ (f : FrontSeen). FrontStands before f later) (sym is) (record {
          runs = stands.runs;
          noted = stands.noted;
          unsent = stands.unsent;
          settled = ap (λ (n : ℕ). max n (opened + count)) stands.settled ∙ settled_max opened old.settled count;
          counted = omega (arith, stands.counted);
          cut_off = stands.cut_off;
        });
        side = λ side items one. none_pushed side items later (record {
          runs = one.runs;
          tape = one.tape;
          put = one.put;
          queue = one.queue;
        });
      }

  -- ---- it is cut off

  pub does_cut : was.tape.broken ≡ true → new ≡ record old { broken = true }
      → FrontDoes g before last rank was (Cuts_off rank ∷ []) [] new
  does_cut breaks is =
      let later : StationPast = record was { cut_off = true } in
      record {
        later = later;
        does = (later, Is_cut_off rank breaks, refl);
        front = subst (λ (f : FrontSeen). FrontStands before f later) (sym is) (record {
          runs = stands.runs;
          noted = stands.noted;
          unsent = stands.unsent;
          settled = stands.settled;
          counted = stands.counted;
          cut_off = refl;
        });
        side = λ side items one. none_pushed side items later (record {
          runs = one.runs;
          tape = one.tape;
          put = one.put;
          queue = one.queue;
        });
      }

-- ---- notes are sent

-- these notes of the front were pushed
abbrev pub pushed : FrontSeen → (more rest : List Note) → FrontSeen
pushed front more rest =
    record front { sent = front.sent ++ more; unsent = rest; pending = front.pending + length more }

sending : (last rank : ℕ) (station : StationPast) (more rest : List Note) → station.unsent ≡ more ++ rest
    → DoAll last rank station (map (λ (note : Note). Sends rank) more)
    (record station { queue = station.queue ++ more; unsent = rest })
sending last rank station [] rest is =
    (λ i. record station { queue = append-nil station.queue i; unsent = sym is i })
sending last rank station (note ∷ more) rest is =
    let next : StationPast = record station { queue = station.queue ++ note ∷ []; unsent = more ++ rest } in (
      next,
      Is_sent rank note (more ++ rest) is,
      subst (λ (l : List Note). DoAll last rank next (map (λ (note : Note). Sends rank) more)
          (record station { queue = l; unsent = rest }))
          (append_assoc station.queue (note ∷ []) more)
          (sending last rank next more rest refl),
    )

module _ {D : Type 0} (g : Ghosts D) (before : List Note) (last rank : ℕ) (was : StationPast) (old new : FrontSeen)
    (stands : FrontStands before old was) where
  pub does_send : (more rest : List Note) → old.unsent ≡ more ++ rest → new ≡ pushed old more rest
      → FrontDoes g before last rank was (map (λ (note : Note). Sends rank) more) more new
  does_send more rest first is =
      let later : StationPast = record was { queue = was.queue ++ more; unsent = rest } in
      record {
        later = later;
        does = sending last rank was more rest (stands.unsent ∙ first);
        front = subst (λ (f : FrontSeen). FrontStands before f later) (sym is) (record {
          runs = stands.runs;
          noted = sym (append_assoc was.tape.history.notes was.queue more)
              ∙ (ap (λ (l : List Note). l ++ more) stands.noted ∙ append_assoc before old.sent more);
          unsent = refl;
          settled = stands.settled;
          counted = omega (
            arith,
            stands.counted,
            ap length (append_assoc before old.sent more),
            length-append (before ++ old.sent) more,
          );
          cut_off = stands.cut_off;
        });
        side = λ side items one. record {
          runs = one.runs;
          tape = one.tape;
          put = one.put;
          queue = ap (λ (l : List Note). l ++ more) one.queue ∙ append_assoc side.kept items more;
        };
      }
