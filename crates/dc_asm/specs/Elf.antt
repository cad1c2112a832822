-- The ELF file of a guest's words.
use Rattle.std.specs.Prelude.{ℕ, ◌+◌, ◌*◌, ◌^◌, List, [], ◌∷◌, ◌++◌, length}
use Rattle.dc_words.specs.Words.{bytes_in, word_of_bytes}

-- two halves as a word, the lower first
abbrev pub halves : ℕ → ℕ → ℕ
halves low high = low + 2 ^ 16 * high

-- magic, class 32 bits, lowest byte first, version; executable, for RISC-V; version, entry, offset of the program header, no
-- sections, no flags; sizes of the header and of a program header, one of which there is; no sections
abbrev pub file_header : List ℕ
file_header = word_of_bytes 127 69 76 70 ∷ word_of_bytes 1 1 1 0 ∷ 0 ∷ 0
    ∷ halves 2 243 ∷ 1 ∷ 1024 ∷ 52 ∷ 0
    ∷ 0 ∷ halves 52 32 ∷ halves 1 0 ∷ halves 0 0 ∷ []

-- a part to be loaded, which lies behind the headers: address twice, size in the file and in memory; to be read, written and run
abbrev pub part_header : ℕ → List ℕ
part_header size = 1 ∷ 84 ∷ 1024 ∷ 1024 ∷ size ∷ size ∷ 7 ∷ 4 ∷ []

-- the words of both headers, of a file with so many words
abbrev pub header : ℕ → List ℕ
header count = file_header ++ part_header (4 * count)

-- the headers' bytes, then the words'
unfoldable pub elf_of : List ℕ → List ℕ
elf_of words = bytes_in (header (length words) ++ words)
