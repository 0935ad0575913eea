-- Drops of several debts, one after another.
use Rattle.std.proofs.Common.{◌≡◌, ◌+◌, ◌<◌, ◌∷◌, [], ◌++◌, ℕ, List, length, take, drop, sym, ap, ◌∙◌, subst, arith}
use Rattle.std.proofs.lemmas.List.{append-nil, append_assoc, drop_all, drop_more, length-append, length-drop}
use Rattle.std.proofs.lemmas.List.{length-map, length-take}
use Rattle.std.proofs.lemmas.List.{take_all}
use Rattle.ledger_core.specs.Shape.{Shape}
use Rattle.ledger_core.specs.declared.note.Note.{Note}
use Rattle.ledger_core.specs.declared.note.Note.TheVariants.{Drop}
use Rattle.recovery.specs.Notes.{drops}
use Rattle.peer_queue.specs.Outbox.{Pends, box_shape, notes_in}
use Rattle.peer_queue.specs.Shapes.{AllFit, shape_after}
use Rattle.peer_queue.proofs.Boxes.{done, drops_prefix, last_unsent, last_unsettled}
use Rattle.peer_queue.proofs.outbox.Outbox.drop_all.Goals as goal

pub loop-key-init : goal.loop-key-init
loop-key-init c =
    let same = c.make_room.ensures.same in
    record {
      legal = subst (λ (s : Shape). AllFit s (drops c.args.cause c.args.keys.now)) (sym same.shape) c.requires.legal;
      left = ap (λ (s : Shape). shape_after s (drops c.args.cause c.args.keys.now)) same.shape;
      notes = same.notes ∙ sym (append-nil (notes_in c.args.self.now));
      lying = same.lying;
      sent = same.sent;
      settled = same.settled;
      place = same.place;
      works = same.works;
      spare = omega (arith, c.in_ok-make_room.ensures.ok);
    }

pub push-requires-clause-legal : goal.push-requires-clause-legal
push-requires-clause-legal c =
    let ns = c.args.keys.now in
    let i = c.loop-key.key-index in
    let n = c.key-item.result in
    let split : drop i ns ≡ n ∷ drop (i + 1) ns =
    drop_more ns i n (omega arith) ∙ ap (λ (m : ℕ). m ∷ drop (i + 1) ns) (sym c.key-item.is) in
    let legal : AllFit (box_shape c.loop-key.self) (drops c.args.cause (n ∷ drop (i + 1) ns)) =
    subst (λ (l : List ℕ). AllFit (box_shape c.loop-key.self)
    (drops c.args.cause l)) split c.loop-key.invariant.legal in
    legal.0

pub push-requires-clause-room : goal.push-requires-clause-room
push-requires-clause-room c =
    let ns = c.args.keys.now in
    let i = c.loop-key.key-index in
    let old = c.args.self.now in
    let now = c.loop-key.self in
    omega (
      arith,
      length-drop now.lying (notes_in now),
      length-drop old.lying (notes_in old),
      ap (λ (l : List Note). length l) c.loop-key.invariant.notes,
      length-append (notes_in old) (drops c.args.cause (take i ns)),
      length-map (take i ns) (λ (key : ℕ). Drop key c.args.cause),
      length-take i ns,
      c.loop-key.invariant.lying,
      c.requires.room,
      old.within,
    )

pub push-requires-clause-spare : goal.push-requires-clause-spare
push-requires-clause-spare c = omega (arith, c.loop-key.invariant.spare)

pub loop-key-preserved : goal.loop-key-preserved
loop-key-preserved c =
    let ns = c.args.keys.now in
    let i = c.loop-key.key-index in
    let n = c.key-item.result in
    let cause = c.args.cause in
    let was = c.loop-key.invariant in
    let now = c.loop-key.self in
    let inside : i < length ns = omega arith in
    let split : drop i ns ≡ n ∷ drop (i + 1) ns =
    drop_more ns i n inside ∙ ap (λ (m : ℕ). m ∷ drop (i + 1) ns) (sym c.key-item.is) in
    let took : Pends (Drop n cause ∷ []) now c.push.new.self = done c.push.result c.push.ensures.ok
    c.push.ensures.no_memory in
    let legal : AllFit (box_shape now) (drops cause (n ∷ drop (i + 1) ns)) =
    subst (λ (l : List ℕ). AllFit (box_shape now) (drops cause l)) split was.legal in
    record {
      legal = subst (λ (s : Shape). AllFit s (drops cause (drop (i + 1) ns))) (sym took.shape) legal.1;
      left = ap (λ (s : Shape). shape_after s (drops cause (drop (i + 1) ns))) took.shape
          ∙ (ap (λ (l : List ℕ). shape_after (box_shape now) (drops cause l)) (sym split) ∙ was.left);
      notes = took.notes
          ∙ (ap (λ (l : List Note). l ++ Drop n cause ∷ []) was.notes
          ∙ (append_assoc (notes_in c.args.self.now) (drops cause (take i ns)) (Drop n cause ∷ [])
          ∙ ap (λ (l : List Note). notes_in c.args.self.now ++ l) (sym
          (drops_prefix cause ns i n inside c.key-item.is))));
      lying = took.lying ∙ was.lying;
      sent = took.sent ∙ was.sent;
      settled = took.settled ∙ was.settled;
      place = took.place ∙ was.place;
      works = took.works ∙ was.works;
      spare = omega (
        arith,
        was.spare,
        ap (λ (l : List Note). length l) took.notes,
        length-append (notes_in now) (Drop n cause ∷ []),
        c.push.ensures.capacity,
      );
    }

pub returns-clause-ok : goal.returns-clause-ok
returns-clause-ok c =
    let ns = c.args.keys.now in
    let i = c.loop-key.key-index in
    let cause = c.args.cause in
    let was = c.loop-key.invariant in
    let old = c.args.self.now in
    let now = c.loop-key.self in
    let rest = drop_all i ns (omega arith) in
    let notes : notes_in now ≡ notes_in old ++ drops cause ns =
    was.notes ∙ ap (λ (l : List ℕ). notes_in old ++ drops cause l) (take_all i ns (omega arith)) in
    record {
      legal = c.requires.legal;
      shape = sym (ap (λ (l : List ℕ). shape_after (box_shape now) (drops cause l)) rest) ∙ was.left;
      notes = notes;
      lying = was.lying;
      unsettled = ap (λ (n : ℕ). drop n (notes_in now)) was.lying
          ∙ last_unsettled (notes_in old) (notes_in now) (drops cause ns) old.lying old.sent notes old.within;
      unsent = ap (λ (n : ℕ). drop n (drop now.lying (notes_in now))) was.sent
          ∙ (ap (λ (n : ℕ). drop old.sent (drop n (notes_in now))) was.lying
          ∙ last_unsent (notes_in old) (notes_in now) (drops cause ns) old.lying old.sent notes old.within);
      sent = was.sent;
      settled = was.settled;
      place = was.place;
      works = was.works;
    }
