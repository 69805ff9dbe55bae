-- Slot times, in symbols of 16 microseconds.
use Rattle.std.specs.Prelude.{ℕ, ◌+◌, ◌-◌, ◌*◌, cond, ◌&&◌, Some, None, Ok, Err, Option, Result, nat_le}
use Rattle.frame.specs.declared.faults.Fault.{Fault}
use Rattle.frame.specs.declared.faults.Refusal.TheVariants as refusal
use Rattle.frame.specs.Refusals.{fault}
use Rattle.plan.specs.declared.grant.Grant.{Grant}
use Rattle.plan.specs.declared.numbers.Numbers.{Numbers}
use Rattle.plan.specs.Rules.{bitmap_octets}

-- the spacing after a frame of m octets, FCS included: short up to 18 octets, else long
abbrev pub spacing : ℕ → ℕ
spacing m = cond (nat_le m 18) 12 40

-- a frame of m octets, FCS included: a header of 12 symbols, two symbols an octet, and the spacing after it
abbrev pub frame_symbols : ℕ → ℕ
frame_symbols m = 12 + 2 * m + spacing m

-- a base timeslot: it fits a payload of n octets with the control octet and the FCS
abbrev pub timeslot_symbols : ℕ → ℕ
timeslot_symbols n = frame_symbols (n + 3)

-- the beacon timeslot: it fits the Online beacon, six octets and the bitmap, with the FCS
abbrev pub beacon_symbols : Numbers → ℕ
beacon_symbols ns = frame_symbols (6 + bitmap_octets ns + 2)

-- the symbol at which timeslot t ends: the timeslots follow the beacon; timeslot 0 stands for the beacon itself
abbrev pub end_of : Numbers → ℕ → ℕ
end_of ns t = beacon_symbols ns + t * timeslot_symbols ns.size

-- a start and an end
abbrev pub Span : Type 0
Span = ℕ × ℕ

-- timeslots f to f + w - 1
abbrev pub span_of : Numbers → ℕ → ℕ → Span
span_of ns f w = (end_of ns (f - 1), end_of ns (f + w - 1))

-- the slot-time question: start and end of timeslot t, for a timeslot of the plan
abbrev pub slot_span : Numbers → ℕ → Result Span Fault
slot_span ns t = cond (nat_le 1 t && nat_le t ns.timeslots) (Ok (span_of ns t 1)) (Err (fault refusal.Timeslot t))

-- the timeslots of a grant, if there is one
abbrev pub grant_span : Numbers → Option Grant → Option Span
grant_span ns None = None
grant_span ns (Some g) = Some (span_of ns g.first g.width)

-- the Online superframe: the beacon and N timeslots
abbrev pub superframe_symbols : Numbers → ℕ
superframe_symbols ns = beacon_symbols ns + ns.timeslots * timeslot_symbols ns.size

-- symbols as microseconds
abbrev pub microseconds : ℕ → ℕ
microseconds symbols = 16 * symbols

-- sixteen timeslots of two octets each, two of them for retransmission
abbrev pub sixteen_of_two : Numbers
sixteen_of_two = record {
  timeslots = 16;
  uplink = 16;
  retransmission = 2;
  size = 2;
  management = 1;
  coordinator = 0;
  channel = 11;
  sequence = 0;
}
