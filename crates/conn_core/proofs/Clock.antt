-- A connection still stands for its transcript after a tick.
use Rattle.std.proofs.Common.{◌≡◌, ℕ, Bool, true, false, List, [], ◌∷◌, ◌++◌, refl, sym, ap, subst, ◌∙◌, Option, Some, None}
use Rattle.std.specs.Prelude.{◌&&◌, ◌||◌, ◌-◌, not, nat_le}
use Rattle.std.proofs.lemmas.List.{append-nil}
use Rattle.conn_core.specs.History.{Event, Tick, phase, window, is_mode, awaits, is_still, is_late, moment, quiet, stirred, reason, ends, held, backs, story, after}
use Rattle.conn_core.specs.State.{State, awaited_of}
use Rattle.conn_core.specs.Stands.{MatchesWhileOpen, Matches}
use Rattle.conn_core.specs.Machine.{is_awaiting, quiet_at, late_or, ticked}
use Rattle.conn_core.specs.declared.options.Options.{Options}
use Rattle.conn_core.specs.declared.reason.Reason.TheVariants.{Timeout}
use Rattle.conn_core.proofs.Blocks.{is_empty-map}
use Rattle.conn_core.proofs.Steps.{goes_on, shut_by, stands_quit}

module _ (options : Options) where
  same_awaits : (s : State) (h : List Event) → MatchesWhileOpen options s h → is_awaiting s ≡ awaits options h
  same_awaits s h o = rw (o.phase_is, o.window_is) (ap (λ b. not (is_mode (phase options h)) || not b) (is_empty-map awaited_of (window options h)))

  same_quiet : (s : State) (h : List Event) (now : ℕ) → MatchesWhileOpen options s h → quiet_at s now ≡ moment (quiet options h) (is_still options h) now
  same_quiet s h now o =
      ap (λ (q : Option ℕ). moment q (not s.stirred && is_awaiting s) now) o.quiet_is
      ∙ ap (λ (b : Bool). moment (quiet options h) (not b && is_awaiting s) now) o.stirred_is
      ∙ ap (λ (b : Bool). moment (quiet options h) (not (stirred options h) && b) now) (same_awaits s h o)

  -- a tick that is late closes
  tick-step : (s : State) (h : List Event) (now : ℕ) (b : Bool) → is_late options h now ≡ b → Matches options s h → reason options h ≡ None
      → Matches options (late_or (record s { stirred = false; quiet = Some (quiet_at s now) }) b) (Tick now ∷ h)
  unfolding story
  tick-step s h now true late st running =
      let e : ends options (Tick now ∷ h) ≡ ends options h ++ backs (held options h) = rw late refl in
      shut_by options s h (Tick now) Timeout false (Some (quiet_at s now)) st running (rw late refl) e
      refl refl refl refl refl
  tick-step s h now false late st running =
      let o = st.while_open running in
      let none : ends options (Tick now ∷ h) ≡ ends options h ++ [] = rw late refl in
      goes_on options s (record s { stirred = false; quiet = Some (quiet_at s now) }) h (Tick now) [] st running (rw late refl) none refl
      refl refl st.quitting_is st.accepted_is st.recent_is st.off_is st.answered_is refl
      (sym (append-nil s.found)) (record {
        phase_is = o.phase_is;
        held_is = rw (none, append-nil (ends options h)) o.held_is;
        window_is = o.window_is;
        blocks_is = o.blocks_is;
        wanted_is = o.wanted_is;
        output_is = o.output_is;
        sent_few = o.sent_few;
        stirred_is = refl;
        quiet_is = ap Some (same_quiet s h now o);
        tied = o.tied;
      })

  pub stands_ticked : (s : State) (h : List Event) (now : ℕ) → Matches options s h → reason options h ≡ None → Matches options (ticked s now) (after options h (Tick now))
  unfolding after
  stands_ticked s h now st running =
      let o = st.while_open running in
      let late : (is_awaiting s && nat_le s.options.response_timeout (now - quiet_at s now)) ≡ is_late options h now =
      ap (λ (b : Bool). b && nat_le s.options.response_timeout (now - quiet_at s now)) (same_awaits s h o)
      ∙ ap (λ (n : ℕ). awaits options h && nat_le s.options.response_timeout (now - n)) (same_quiet s h now o)
      ∙ ap (λ (t : Options). awaits options h && nat_le t.response_timeout (now - moment (quiet options h) (is_still options h) now)) st.options_is in
      stands_quit options (late_or (record s { stirred = false; quiet = Some (quiet_at s now) }) (is_awaiting s && nat_le s.options.response_timeout (now - quiet_at s now))) (Tick now ∷ h)
      (subst (λ (b : Bool). Matches options (late_or (record s { stirred = false; quiet = Some (quiet_at s now) }) b) (Tick now ∷ h)) (sym late) (tick-step s h now (is_late options h now) refl st running))
