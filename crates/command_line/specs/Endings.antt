-- The status of a program that ran.
use Rattle.std.specs.Prelude.{ℕ, Result, Ok, Err}
use Rattle.std.specs.IoError.{error_kind}
use Rattle.std.specs.declared.io.Error.{Error}
use Rattle.std.specs.declared.io.ErrorKind.{ErrorKind}
use Rattle.std.specs.declared.io.ErrorKind.TheVariants as kind

-- a pipe that was closed is no failure, anything else is
abbrev pub failure_of : ErrorKind → ℕ
failure_of kind.BrokenPipe = 0
failure_of k = 1

-- 0 for a program that came to its end
abbrev pub status_of : {A : Type 0} → Result A Error → ℕ
status_of (Ok done) = 0
status_of (Err error) = failure_of (error_kind error)
