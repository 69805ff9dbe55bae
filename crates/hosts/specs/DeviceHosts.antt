-- What a host has of its device.
use Rattle.std.specs.Prelude.{ℕ, Bool, true, false, List, ◌++◌, codes, decimal}
use Rattle.device.specs.declared.device.Device.{Device}
use Rattle.device.specs.Devices.{has_sent, is_waiting}
use Rattle.hosts.specs.Counts.{counts_text}
use Rattle.hosts.specs.declared.device_host.DeviceHost.{DeviceHost}
use Rattle.hosts.specs.declared.fate_counts.FateCounts.{FateCounts}

-- the device
abbrev pub device_held : {C : Type 0} → DeviceHost C → Device C
device_held h = h.device

-- the counts of its cargo
abbrev pub counts_held : {C : Type 0} → DeviceHost C → FateCounts
counts_held h = h.counts

-- 1 for yes, 0 for no
abbrev pub one_if : Bool → ℕ
one_if true = 1
one_if false = 0

-- a device's counts as text, and then whether it has sent cargo whose fate is not told, and whether cargo waits
abbrev pub host_text : {C : Type 0} → DeviceHost C → List ℕ
host_text h =
    counts_text (counts_held h) ++
    (codes " sent " ++ (decimal (one_if (has_sent (device_held h))) ++
    (codes " waiting " ++ decimal (one_if (is_waiting (device_held h))))))
