-- What is wrong with a file, in words.
use Rattle.std.specs.Prelude.{ℕ, List, [], ◌++◌, Option, None, Some, codes, decimal}
use Rattle.std.specs.Option.{option_map_or}
use Rattle.dc_elf.specs.declared.faults.ElfFault.{ElfFault}
use Rattle.dc_elf.specs.declared.faults.ElfFault.TheVariants.{Short, Magic, Class, Order, FileType, Machine, Flags, Headers, Segment, Entry}

-- the words of a fault, up to the number of its part
abbrev pub fault_words : ElfFault → List ℕ
fault_words Short = codes "short"
fault_words Magic = codes "magic"
fault_words Class = codes "class"
fault_words Order = codes "order"
fault_words FileType = codes "file type"
fault_words Machine = codes "machine"
fault_words Flags = codes "flags"
fault_words Headers = codes "headers"
fault_words (Segment part) = codes "segment "
fault_words Entry = codes "entry"

-- the number of the part that a fault is of
abbrev pub fault_part : ElfFault → Option ℕ
fault_part (Segment part) = Some part
fault_part _ = None

-- the whole text of a fault: its words, and the number where there is one
abbrev pub fault_text : ElfFault → List ℕ
fault_text fault = fault_words fault ++ option_map_or decimal (fault_part fault) []
