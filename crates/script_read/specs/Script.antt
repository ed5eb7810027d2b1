-- What a script says: its lines, and what each asks for.
use Rattle.std.specs.Prelude.{◌≡◌, ℕ, ◌+◌, ◌-◌, ◌==◌, Bool, ◌&&◌, ◌||◌, nat_le, nat_lt, List, [], ◌∷◌, ◌++◌, length, take, filter, slice_index, Option, Some, None, Result, Ok, Err, if◌then◌else◌}
use Rattle.std.specs.List.{list_all, slice_split, join_with_byte}
use Rattle.script_read.specs.declared.command.Command.{Command}
use Rattle.script_read.specs.declared.lines.Line.{Line}
use Rattle.script_read.specs.declared.lines.ScriptFault.{ScriptFault}
use Rattle.script_read.specs.declared.lines.ScriptFault.TheVariants.{TooManyLines, BadLine, NoMemory}
use Rattle.script_read.specs.declared.lines.Says.{Says}
use Rattle.script_read.specs.declared.lines.Says.TheVariants.{Bad, Nothing, Asks}
use Rattle.script_read.specs.declared.lines.TheConstants.{LINE_LIMIT}
use Rattle.script_read.specs.Table.{command_of}
use Rattle.script_read.specs.Written.{words_by, is_some_word}

-- a text without a newline at its end
abbrev pub without_newline : List ℕ → List ℕ
without_newline bytes = if slice_index bytes (length bytes - 1) == 10 then take (length bytes - 1) bytes else bytes

-- the lines of a script, each ended by a newline; a last piece that isn't empty is a line too
abbrev pub lines_of : List ℕ → List (List ℕ)
lines_of [] = []
lines_of (byte ∷ bytes) = slice_split (λ b. b == 10) (without_newline (byte ∷ bytes))

-- a carriage return at a line's end is dropped, one and no more
abbrev pub without_return : List ℕ → List ℕ
without_return line = if slice_index line (length line - 1) == 13 then take (length line - 1) line else line

-- 32 to 126, or a tab
abbrev pub is_line_byte : ℕ → Bool
is_line_byte byte = (nat_le 32 byte && nat_le byte 126) || byte == 9

-- a space or a tab
abbrev pub is_blank : ℕ → Bool
is_blank byte = byte == 32 || byte == 9

-- words are divided by spaces and tabs
abbrev pub words_in : List ℕ → List (List ℕ)
words_in line = filter is_some_word (slice_split is_blank line)

abbrev pub asked : List (List ℕ) → Option Command → Says
asked words None = Bad
asked words (Some command) = Asks words command

-- a line without words, or whose first word begins with #, is passed over
abbrev pub words_say : List (List ℕ) → Says
words_say [] = Nothing
words_say (first ∷ words) =
    if slice_index first 0 == 35 then Nothing else asked (first ∷ words) (command_of (first ∷ words))

abbrev pub bytes_say : List ℕ → Says
bytes_say line = if list_all is_line_byte line then words_say (words_in line) else Bad

abbrev pub line_says : List ℕ → Says
line_says line = bytes_say (without_return line)

-- the line that is written for a command
abbrev pub line_text : Command → List ℕ
line_text command = join_with_byte 32 (words_by command)

abbrev pub with_front : List Line → Result (List Line) ScriptFault → Result (List Line) ScriptFault
with_front front (Ok lines) = Ok (front ++ lines)
with_front front (Err fault) = Err fault

-- a line, and what those behind it are
abbrev pub with_line : ℕ → Says → Result (List Line) ScriptFault → Result (List Line) ScriptFault
with_line number Bad rest = Err (BadLine number)
with_line number Nothing rest = rest
with_line number (Asks words command) rest = with_front (record { number = number; words = words; command = command } ∷ []) rest

-- lines of which the first has that number
abbrev pub lines_from : ℕ → List (List ℕ) → Result (List Line) ScriptFault
lines_from number [] = Ok []
lines_from number (line ∷ lines) = with_line number (line_says line) (lines_from (number + 1) lines)

-- What a script says. Its number of lines is looked at first.
abbrev pub script_of : List ℕ → Result (List Line) ScriptFault
script_of bytes =
    if nat_lt LINE_LIMIT (length (lines_of bytes)) then Err TooManyLines else lines_from 1 (lines_of bytes)

-- the answer is the one wanted, unless memory was wanting
abbrev pub IsScriptAnswer : Result (List Line) ScriptFault → Result (List Line) ScriptFault → Type 0
IsScriptAnswer wanted (Ok lines) = wanted ≡ Ok lines
IsScriptAnswer wanted (Err TooManyLines) = wanted ≡ Err TooManyLines
IsScriptAnswer wanted (Err (BadLine line)) = wanted ≡ Err (BadLine line)
IsScriptAnswer wanted (Err NoMemory) = Unit {0}
