-- Grants that follow one another evenly.
use Rattle.std.specs.Prelude.{ℕ, ◌+◌, ◌-◌, ◌*◌, map}
use Rattle.std.specs.List.{range_with_len}
use Rattle.plan.specs.declared.grant.Grant.{Grant}
use Rattle.plan.specs.declared.numbers.Numbers.{Numbers}
use Rattle.plan.specs.Rules.{PlanMeaning, plan_of}

-- grant i of w timeslots each, right behind the retransmission timeslots, with addresses that count up from a and s;
-- its numbers may pass every range
abbrev pub even_grant : Numbers → ℕ → ℕ → ℕ → ℕ → Grant
even_grant ns w a s i = record {
  address = a + (i - 1);
  simple = s + (i - 1);
  first = ns.retransmission + 1 + (i - 1) * w;
  width = w;
}

-- the plan of grants 1 to n
abbrev pub even_plan : Numbers → ℕ → ℕ → ℕ → ℕ → PlanMeaning
even_plan ns n w a s = plan_of ns (map (even_grant ns w a s) (range_with_len 1 n))
