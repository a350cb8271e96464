-- What the program's own types stand for: a command is a frame, and the fields are those of a line.
use Rattle.std.specs.Prelude.{ℕ, Bool, cond}
use Rattle.registers.specs.Registers.{index}
use Rattle.registers.specs.declared.event.Event.TheVariants as event
use Rattle.frames.specs.Lines.{Line, kind_field, a_field, v_field}
use Rattle.frames.specs.Decode.{Frame}
use Rattle.frames.specs.declared.line.Fields.{Fields}
use Rattle.frames.specs.declared.kind.Kind.{Kind}
use Rattle.frames.specs.declared.kind.Kind.TheVariants as kind
use Rattle.frames.specs.declared.command.Command.{Command}
use Rattle.frames.specs.declared.command.Command.TheVariants as command

abbrev frame : Kind → ℕ → ℕ → Frame
frame k a v = record { kind = k; a = a; v = v }

abbrev pub level : Bool → ℕ
level b = cond b 1 0

-- the frame that a command was
abbrev pub frame_of : Command → Frame
frame_of command.Reset = frame kind.Reset 0 0
frame_of (command.RegisterWrite r v) = frame kind.RegisterWrite (index r) v
frame_of (command.RegisterRead r) = frame kind.RegisterRead (index r) 0
frame_of (command.PageWrite p w) = frame kind.PageWrite p.number w
frame_of (command.PageRead p) = frame kind.PageRead p.number 0
frame_of (command.CpuWrite a v) = frame kind.CpuWrite a.bits v
frame_of (command.CpuRead a) = frame kind.CpuRead a.bits 0
frame_of (command.Input event.Tick) = frame kind.Tick 0 0
frame_of (command.Input (event.Activity s)) = frame kind.Activity s.number 0
frame_of (command.Input (event.Ext b)) = frame kind.Ext 0 (level b)
frame_of (command.Input (event.Ring b)) = frame kind.Ring 0 (level b)
frame_of (command.Input event.Alarm) = frame kind.Alarm 0 0
frame_of (command.Input (event.Battery b)) = frame kind.Battery 0 (level b)
frame_of (command.Input (event.Ac b)) = frame kind.Ac 0 (level b)

-- the three numbers of a line
abbrev pub fields_of : Line → Fields
fields_of l = record { kind = kind_field l; a = a_field l; v = v_field l }
