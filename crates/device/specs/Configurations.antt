-- A configuration in the words of slot plans.
use Rattle.std.specs.Prelude.{ℕ, Bool, ◌&&◌, Option}
use Rattle.std.specs.Option.{option_map}
use Rattle.frame.specs.declared.command.Configuration.{Configuration}
use Rattle.plan.specs.declared.grant.Grant.{Grant}
use Rattle.plan.specs.declared.numbers.Numbers.{Numbers}
use Rattle.plan.specs.Verdicts.{numbers_kept, grant_kept}
use Rattle.device.specs.declared.member.Member.{Member}

-- the numbers of the slot plan that a configuration tells; the two that it does not tell are in range
abbrev pub numbers_in : Configuration → Numbers
numbers_in c = record {
  timeslots = c.timeslots;
  uplink = c.uplink;
  retransmission = c.retransmission;
  size = c.size;
  management = 1;
  coordinator = c.coordinator;
  channel = c.channel;
  sequence = 0;
}

-- the grant that a configuration tells, of the device with a full address
abbrev pub grant_in : ℕ → Configuration → Grant
grant_in address c = record { address = address; simple = c.simple; first = c.first; width = c.width }

-- whether a configuration keeps the rules of slot plans
abbrev pub keeps_rules : ℕ → Configuration → Bool
keeps_rules address c = numbers_kept (numbers_in c) && grant_kept (numbers_in c) (grant_in address c)

-- a full address and a configuration as a configured device, if there is a configuration
abbrev pub member_in : ℕ → Option Configuration → Option Member
member_in address c = option_map (λ x. record { address = address; configuration = x }) c
