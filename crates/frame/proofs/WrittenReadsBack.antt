-- What is written reads back as what was asked.
use Rattle.std.proofs.Common.{◌≡◌, ℕ, ◌^◌, ◌<◌, ◌≤◌, true, false, ltb, List, [], ◌++◌, length, take, drop, IfOk, Ok}
use Rattle.std.proofs.Common.{Err, Result, refl, ap, ◌∙◌, subst, inl, inr, arith, lit<, lit≤}
use Rattle.std.proofs.lemmas.List.{take_at}
use Rattle.std.proofs.lemmas.Bool.{cases_lt}
use Rattle.std.proofs.lemmas.Bool.Decides.{nat_tests}
use Rattle.frame.specs.declared.faults.Fault.{Fault}
use Rattle.frame.specs.declared.faults.Refusal.TheVariants as refusal
use Rattle.frame.specs.declared.acknowledgment.Acknowledged.TheVariants as acknowledged
use Rattle.frame.specs.declared.command.Command.TheVariants as commands
use Rattle.frame.specs.declared.command.Wish.{Wish}
use Rattle.frame.specs.declared.beacon.BeaconHeader.{BeaconHeader}
use Rattle.frame.specs.declared.direction.Direction.{Direction}
use Rattle.frame.specs.declared.direction.Direction.TheVariants as directions
use Rattle.frame.specs.declared.beacon.ManagementState.{ManagementState}
use Rattle.frame.specs.declared.beacon.ManagementState.TheVariants as management
use Rattle.frame.specs.Formats.{extent, parts, reading, Told}
use Rattle.frame.specs.Messages.{Message, online_beacon, discovery_beacon, configuration_beacon, reset_beacon}
use Rattle.frame.specs.Messages.{data_frame, acknowledgment_frame, command_frame, management_beacon, management_state}
use Rattle.frame.specs.Messages.{beacon_octets, octets_of}
use Rattle.frame.specs.Refusals.{fault}
use Rattle.frame.specs.Writing.{format_for, fitting, left_by, Written}
use Rattle.frame.proofs.OctetNumbers.{value_little, low_bits, middle_bit, high_bits}

-- the numbers of a message fit their places
abbrev pub Fit : Message → Type 0
Fit (online_beacon h n bitmap) = Unit {0}
Fit (discovery_beacon h g) = g ≤ 7
Fit (configuration_beacon h g) = g ≤ 7
Fit (reset_beacon h) = Unit {0}
Fit (data_frame p) = Unit {0}
Fit (acknowledgment_frame a) = Unit {0}
Fit (command_frame (commands.DiscoverResponse address wish)) = address < 2 ^ 64
Fit (command_frame (commands.ConfigurationStatus address simple wish first width)) = address < 2 ^ 64
Fit (command_frame (commands.ConfigurationRequest address c)) = address < 2 ^ 64

abbrev pub told_of : Message → Told
told_of m = record { message = m; lent = parts (format_for m) (octets_of m) }

abbrev ReadsBack : Message → Type 0
ReadsBack m = reading (octets_of m) ≡ Ok (told_of m)

-- a command with a wish, by its direction
discover_back : (address width : ℕ) (d : Direction) → address < 2 ^ 64 →
    ReadsBack (command_frame (commands.DiscoverResponse address (record { width = width; direction = d })))
discover_back address width directions.Uplink fit = rw (value_little 8 address fit)
discover_back address width directions.Bidirectional fit = rw (value_little 8 address fit)

status_back : (address simple wanted : ℕ) (d : Direction) (first width : ℕ) → address < 2 ^ 64 →
    (let wish : Wish = record { width = wanted; direction = d } in
    ReadsBack (command_frame (commands.ConfigurationStatus address simple wish first width)))
status_back address simple wanted directions.Uplink first width fit = rw (value_little 8 address fit)
status_back address simple wanted directions.Bidirectional first width fit = rw (value_little 8 address fit)

pub reads_back : (m : Message) → Fit m → length (octets_of m) ≤ (extent (format_for m)).most →
    reading (octets_of m) ≡ Ok (told_of m)
reads_back (online_beacon h n bitmap) fit short = grind (arith, nat_tests)
reads_back (discovery_beacon h g) fit short =
    rw (low_bits 4 g (lit< tt), middle_bit 4 g (lit< tt), high_bits 4 g (lit< tt) fit)
reads_back (configuration_beacon h g) fit short =
    rw (low_bits 6 g (lit< tt), middle_bit 6 g (lit< tt), high_bits 6 g (lit< tt) fit)
reads_back (reset_beacon h) fit short = refl
reads_back (data_frame p) fit short = grind (arith, nat_tests)
reads_back (acknowledgment_frame acknowledged.Data) fit short = refl
reads_back (acknowledgment_frame acknowledged.DiscoverResponse) fit short = refl
reads_back (acknowledgment_frame acknowledged.ConfigurationRequest) fit short = refl
reads_back (command_frame (commands.DiscoverResponse address wish)) fit short =
    discover_back address wish.width wish.direction fit
reads_back (command_frame (commands.ConfigurationStatus address simple wish first width)) fit short =
    status_back address simple wish.width wish.direction first width fit
reads_back (command_frame (commands.ConfigurationRequest address c)) fit short = rw (value_little 8 address fit)

-- octets that were written stand at the buffer's start
at_the_start : (xs before after : List ℕ) (r : Result ℕ Fault) (P : List ℕ → Type 0) → P xs → r ≡ fitting xs before →
    after ≡ left_by r xs before → IfOk r (λ n. P (take n after))
at_the_start xs before after r P p e f =
    elim (cases_lt (length before) (length xs)) [
      | inl h ↦
          let short : ltb (length before) (length xs) ≡ true = grind (arith, nat_tests) in
          let refused : r ≡ Err (fault refusal.Space 0) = rw short at e in
          rw refused tt
      | inr h ↦
          let room : ltb (length before) (length xs) ≡ false = grind (arith, nat_tests) in
          let done : r ≡ Ok (length xs) = rw room at e in
          let after_is : after ≡ xs ++ drop (length xs) before = rw done at f in
          let front : take (length xs) after ≡ xs =
          ap (take (length xs)) after_is ∙ take_at xs (drop (length xs) before) (length xs) refl in
          rw (done, front) p
    ]

-- what a writer answers and leaves that wrote the octets of a message that fits
pub written : (m : Message) (xs before : List ℕ) (r : Result ℕ Fault) (after : List ℕ) → xs ≡ octets_of m → Fit m →
    length (octets_of m) ≤ (extent (format_for m)).most → r ≡ fitting xs before → after ≡ left_by r xs before →
    Written m before r after
written m xs before r after same fit short e f =
    let whole : ltb (extent (format_for m)).most (length (octets_of m)) ≡ false = grind (arith, nat_tests) in
    let answer : r ≡ fitting (octets_of m) before = subst (λ (l : List ℕ). r ≡ fitting l before) same e in
    let memory : after ≡ left_by r (octets_of m) before = subst (λ (l : List ℕ). after ≡ left_by r l before) same f in
    record {
      answer = rw whole answer;
      memory = memory;
      reads_back =
          at_the_start (octets_of m) before after r (λ xs. reading xs ≡ Ok (told_of m)) (reads_back m fit short)
          answer memory;
    }

-- the same of a beacon in a state that has management timeslots
pub written_managing : (s : ManagementState) (h : BeaconHeader) (g : ℕ) (xs before : List ℕ) (r : Result ℕ Fault)
    (after : List ℕ) → xs ≡ beacon_octets (management_state s) g h [] → g ≤ 7 → r ≡ fitting xs before →
    after ≡ left_by r xs before →
    Written (management_beacon s h g) before r after
written_managing management.Discovery h g xs before r after same fit e f =
    written (discovery_beacon h g) xs before r after same fit (lit≤ tt) e f
written_managing management.Configuration h g xs before r after same fit e f =
    written (configuration_beacon h g) xs before r after same fit (lit≤ tt) e f
