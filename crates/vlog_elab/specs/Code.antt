-- The numbers by which rules of elaboration are told in print.
use Rattle.std.specs.Prelude.{ℕ}
use Rattle.vlog_elab.specs.declared.fault.ElabKind.{ElabKind}
use Rattle.vlog_elab.specs.declared.fault.ElabKind.TheVariants.{NameTaken, UnknownModule, UnknownPort, PortTwice, Mixed, TooManyConnections, WidthMismatch, BadIndex, NoDirection, RangeDiffers, LateDeclaration, LeafBody, TooWide, Recursive, TooManyModules}

abbrev pub elab_code : ElabKind → ℕ
elab_code NameTaken = 60
elab_code UnknownModule = 61
elab_code UnknownPort = 62
elab_code PortTwice = 63
elab_code Mixed = 64
elab_code TooManyConnections = 65
elab_code WidthMismatch = 66
elab_code BadIndex = 67
elab_code NoDirection = 68
elab_code RangeDiffers = 69
elab_code LateDeclaration = 70
elab_code LeafBody = 71
elab_code TooWide = 72
elab_code Recursive = 73
elab_code TooManyModules = 74
