use Rattle.std.proofs.Common.{append-nil, arith}
use Rattle.std.proofs.lemmas.Bool.Decides.{nat_tests}
use Rattle.frame.specs.Messages.{online_beacon}
use Rattle.frame.proofs.WrittenReadsBack.{written}
use Rattle.frame.proofs.beacon.write_online_beacon.Goals as goal

pub returns : goal.returns
returns c =
    written (online_beacon c.args.header c.args.timeslots c.args.bitmap.now) _ _ _ _
    (simp (c.beacon_head.ensures, append-nil)) tt
    (grind (arith, nat_tests, c.in_ok-at_most.ensures)) c.put.ensures.answer c.put.ensures.memory
