-- What writing a frame into a lent buffer answers and leaves there.
use Rattle.std.specs.Prelude.{◌≡◌, ℕ, cond, List, ◌++◌, length, take, drop, is_ok, IfOk, Ok, Err, Result, nat_lt}
use Rattle.std.specs.Prelude.{flat_map}
use Rattle.std.specs.Borrow.{Bor}
use Rattle.frame.specs.declared.faults.Fault.{Fault}
use Rattle.frame.specs.declared.faults.Refusal.TheVariants as refusal
use Rattle.frame.specs.declared.command.Command.{Command}
use Rattle.frame.specs.declared.command.Command.TheVariants as commands
use Rattle.frame.specs.Formats.{Format, beacon, payload, acknowledgment, command, extent, parts, reading}
use Rattle.frame.specs.Messages.{Message, online_beacon, discovery_beacon, configuration_beacon, reset_beacon}
use Rattle.frame.specs.Messages.{data_frame, acknowledgment_frame, command_frame}
use Rattle.frame.specs.Messages.{online, discovery, configuration, reset, discover_response, configuration_status}
use Rattle.frame.specs.Messages.{configuration_request, octets_of}
use Rattle.frame.specs.Refusals.{fault}

-- the format in which a message is sent
abbrev pub command_format_for : Command → Format
command_format_for (commands.DiscoverResponse address wish) = command discover_response
command_format_for (commands.ConfigurationStatus address simple wish first width) = command configuration_status
command_format_for (commands.ConfigurationRequest address c) = command configuration_request

abbrev pub format_for : Message → Format
format_for (online_beacon h n bitmap) = beacon online
format_for (discovery_beacon h g) = beacon discovery
format_for (configuration_beacon h g) = beacon configuration
format_for (reset_beacon h) = beacon reset
format_for (data_frame p) = payload
format_for (acknowledgment_frame a) = acknowledgment a
format_for (command_frame c) = command_format_for c

-- the octets of parts, one part after another
abbrev pub joined : List (Bor (List ℕ)) → List ℕ
joined parts = flat_map (λ part. part.now) parts

-- writing octets answers their length, or Space where the buffer is shorter
abbrev pub fitting : List ℕ → List ℕ → Result ℕ Fault
fitting xs buffer = cond (nat_lt (length buffer) (length xs)) (Err (fault refusal.Space 0)) (Ok (length xs))

-- writing a message: one that no frame can hold is refused as a reader refuses its octets,
-- with Surplus at the first one too many
abbrev pub writing : Message → List ℕ → Result ℕ Fault
writing m buffer =
    cond (nat_lt (extent (format_for m)).most (length (octets_of m)))
    (Err (fault refusal.Surplus (extent (format_for m)).most))
    (fitting (octets_of m) buffer)

-- a buffer after an answer: octets that were written stand at its start, and it is as before past them;
-- a refusal leaves it as it was
abbrev pub left_by : Result ℕ Fault → List ℕ → List ℕ → List ℕ
left_by r xs buffer = cond (is_ok r) (xs ++ drop (length xs) buffer) buffer

-- `m` was asked for, `before` and `after` are what the buffer held, and `r` was answered
pub record Written (m : Message) (before : List ℕ) (r : Result ℕ Fault) (after : List ℕ) : Type 0 where
  pub answer : r ≡ writing m before
  pub memory : after ≡ left_by r (octets_of m) before
  -- what was written reads back as exactly what was asked
  pub reads_back : IfOk r (λ n.
      reading (take n after) ≡ Ok (record { message = m; lent = parts (format_for m) (octets_of m) }))
