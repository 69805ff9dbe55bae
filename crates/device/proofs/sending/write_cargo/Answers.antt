use Rattle.std.proofs.Common.{◌≡◌, take}
use Rattle.device.proofs.CargoFrames.{start_written, answered, remembered}
use Rattle.device.proofs.sending.write_cargo.Goals as goal

pub returns : goal.returns
returns g c =
    let x = c.args.cargo.now in
    let xs = g.C.Cargo.image x in
    let few = g.met.C.Cargo.short x in
    let written = c.write.ensures in
    let k = c.in_ok-length.length in
    let same : take k c.write.new.buffer ≡ xs =
    start_written xs _ _ c.write.result k written.answer written.memory c.in_ok-length.was in
    record {
      answer = answered xs _ c.args.buffer.now _ _ few same c.write_data.ensures;
      memory = remembered xs _ c.args.buffer.now _ _ few same c.write_data.ensures;
    }
