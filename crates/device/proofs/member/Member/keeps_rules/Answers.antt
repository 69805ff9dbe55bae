use Rattle.std.proofs.Common.{arith}
use Rattle.std.proofs.lemmas.Grind.{common_steps}
use Rattle.device.proofs.TestsAgree.{numbers_tested, grant_tested}
use Rattle.device.proofs.member.Member.keeps_rules.Goals as goal

pub returns-then-keep : goal.returns-then-keep
returns-then-keep c =
    let k = numbers_tested c.keep.result _ c.keep.ensures in
    let h = grant_tested c.keeps.result _ _ c.keeps.ensures in
    grind (arith, common_steps)

pub returns-else-keep : goal.returns-else-keep
returns-else-keep c =
    let k = numbers_tested c.keep.result _ c.keep.ensures in
    grind (arith, common_steps)
