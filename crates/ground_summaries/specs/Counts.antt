-- How numbers of things are told.
use Rattle.std.specs.Prelude.{ℕ, ◌==◌, if◌then◌else◌, List, [], ◌++◌, codes, decimal}

-- the ending of what is counted
abbrev pub ending_said : ℕ → List ℕ
ending_said n = if n == 1 then [] else codes "s"

-- `1 packet`, `2 packets`
abbrev pub things_said : ℕ → List ℕ → List ℕ
things_said n what = decimal n ++ (codes " " ++ (what ++ ending_said n))

-- an empty line, and how many frames there were
abbrev pub frames_said : ℕ → List ℕ
frames_said n = codes "\n" ++ things_said n (codes "frame")

-- how many lines there were
abbrev pub lines_said : ℕ → List ℕ
lines_said n = codes ", " ++ (things_said n (codes "line") ++ codes " of the log\n")

-- the first lines of a summary
abbrev pub head_said : ℕ → ℕ → List ℕ
head_said frames lines = frames_said frames ++ lines_said lines
