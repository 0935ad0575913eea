use Rattle.std.proofs.Common.{◌≡◌, ◌+◌, List, [], ◌∷◌, ◌++◌, length, take, drop, sym, subst, arith}
use Rattle.disk_model.specs.Disk.{Event, content}
use Rattle.tape_journal.specs.Records.{HasRead}
use Rattle.tape_journal.proofs.Reading.{length-held, nothing_behind, read_held}
use Rattle.tape_journal.proofs.records.SegmentReader.pass.Goals as goal

pub returns-then-end-self-clause-damaged : goal.returns-then-end-self-clause-damaged
returns-then-end-self-clause-damaged g c payloads come begins at told =
    let self = c.args.self.now in
    let all = content (g.D.Disk.log self.disk) in
    let place : self.at + 5 + c.from.result ≡ at = cc told in
    let end : at ≡ self.at + 5 + c.args.size = omega (arith, place, c.from.ensures) in
    nothing_behind all _ at (read_held all payloads self.at c.args.size at come.read begins end)
    (omega (arith, place, self.whole come.honest)) (omega (arith, end))

pub returns-then-size-gt-GIVEN_MAX_OCTETS-clause-step :
    goal.returns-then-size-gt-GIVEN_MAX_OCTETS-clause-step
returns-then-size-gt-GIVEN_MAX_OCTETS-clause-step g c payloads come begins =
    let self = c.args.self.now in
    let all = content (g.D.Disk.log self.disk) in
    let len = length-held all self.at c.args.size begins in (
      take c.args.size (drop (self.at + 5) all),
      omega (arith, len),
      record {
        honest = come.honest;
        read = read_held all payloads self.at c.args.size _ come.read begins (omega (arith, c.from.ensures));
      },
    )

pub returns-clause-step : goal.returns-clause-step
returns-clause-step g c payloads come begins =
    let self = c.args.self.now in
    let all = content (g.D.Disk.log self.disk) in
    let payload = take c.args.size (drop (self.at + 5) all) in
    let len : length payload ≡ c.args.size = length-held all self.at c.args.size begins in
    let end = self.at + 5 + c.from.result in (
      payload,
      c.in_ok-from.ensures.octets come.honest,
      omega (arith, len),
      record {
        honest = c.hold.ensures.honest.0 come.honest;
        read = subst (λ (log : List Event). HasRead (content log) (payloads ++ payload ∷ []) end)
            (sym (c.hold.ensures.log come.honest))
            (read_held all payloads self.at c.args.size end come.read begins (omega (arith, c.from.ensures)));
      },
    )
