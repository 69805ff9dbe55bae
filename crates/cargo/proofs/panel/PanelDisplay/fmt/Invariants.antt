use Rattle.std.proofs.Common.{take}
use Rattle.std.specs.Fmt.{HasWritten, IsPlainFormatter}
use Rattle.cargo.specs.Panels.{inputs_of, panel_text}
use Rattle.cargo.proofs.panel.PanelDisplay.fmt.Given as goal

-- the inputs so far were written, if the formatter was plain
abbrev pub invariant-loop-k : goal.invariant-loop-k
invariant-loop-k g l = IsPlainFormatter l.fn.f
    → HasWritten g.W.Write.write_str_gives l.fn.f (panel_text (take l.k (inputs_of l.self))) l.f
