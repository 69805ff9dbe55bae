use Rattle.std.proofs.Common.{ℕ, [], append-nil, ap, ◌∙◌}
use Rattle.frame.specs.Messages.{State, beacon_octets, management_state}
use Rattle.frame.specs.ManagementWidths.{width_of}
use Rattle.frame.proofs.WrittenReadsBack.{written_managing}
use Rattle.frame.proofs.beacon.write_management_beacon.Goals as goal

pub returns : goal.returns
returns c =
    let h = c.args.header in
    let by_state = ap (λ (s : State). beacon_octets s c.into-2.result h []) c.into.ensures in
    let by_width = ap (λ (g : ℕ). beacon_octets (management_state c.args.state) g h []) c.into-2.ensures.0 in
    let same = append-nil c.beacon_head.result ∙ c.beacon_head.ensures ∙ by_state ∙ by_width in
    written_managing c.args.state h (width_of c.args.management) _ _ _ _
    same c.args.management.narrow c.put.ensures.answer c.put.ensures.memory
