-- What is read of words, beside what they ask for.
use Rattle.std.specs.Prelude.{◌≡◌, ⊤, Option, Some, None, Result, Ok, Err}
use Rattle.tn_words.specs.declared.faults.NoMemory.{NoMemory}
use Rattle.tn_words.specs.declared.commands.Command.{Command}
use Rattle.tn_words.specs.declared.commands.Command.TheVariants as command
use Rattle.tn_words.specs.CommandWords.{Asked, flat, one, asm, lib, build, list, tree, replay, grid}

-- nothing is read where nothing is asked for, and else this is, unless there is no memory
abbrev pub IsReadAs : {A B : Type 0} → (B → A) → Option A → Option (Result B NoMemory) → Type 0
IsReadAs seen None None = ⊤
IsReadAs seen (Some a) (Some (Ok b)) = a ≡ seen b
IsReadAs seen (Some a) (Some (Err want)) = ⊤
IsReadAs seen _ _ = ⊥

-- what a command is asked for as
abbrev pub asked_by : Command → Asked
asked_by (command.Flat source target) = flat source target
asked_by (command.One source target link) = one source target link
asked_by (command.Asm source target) = asm source target
asked_by (command.Lib target sources) = lib target sources.items
asked_by (command.Build config target) = build config target
asked_by (command.List config) = list config
asked_by (command.Tree config) = tree config
asked_by (command.Replay config schedule) = replay config schedule
asked_by (command.Grid size) = grid size

-- the command is what is asked for, unless there is no memory
abbrev pub IsFor : Asked → Result Command NoMemory → Type 0
IsFor what (Ok c) = what ≡ asked_by c
IsFor what (Err want) = ⊤
