-- The text of a made program, by its pieces.
use Rattle.std.specs.Prelude.{ℕ, zero, suc, ◌+◌, ◌-◌, ◌%◌, ◌==◌, if◌then◌else◌, List, [], ◌∷◌, ◌++◌, codes, decimal}
use Rattle.program_maker.specs.declared.draws.Numbers.{Numbers}
use Rattle.program_maker.specs.Draws.{numbers_of}

-- A number between two pieces of text.
unfoldable pub numbered : List ℕ → ℕ → List ℕ → List ℕ
numbered before n behind = before ++ (decimal n ++ behind)

-- `int fK(int a, int b) {`
unfoldable pub head_line : ℕ → List ℕ
head_line k = numbered (codes "int f") k (codes "(int a, int b) {\n")

-- `int c = L1;`
unfoldable pub start_line : Numbers → List ℕ
start_line m = numbered (codes "int c = ") m.first (codes ";\n")

-- `for (int i = 0; i < N; i++) {`
unfoldable pub loop_line : Numbers → List ℕ
loop_line m = numbered (codes "for (int i = 0; i < ") m.turns (codes "; i++) {\n")

-- `c = (c O1 a) O2 (b O3 L2);`
unfoldable pub mix_line : Numbers → List ℕ
mix_line m = (codes "c = (c " ++ m.inner ∷ codes " a) ") ++ ((m.outer ∷ codes " (b ") ++ (m.other ∷ numbered (codes " ") m.constant (codes ");\n")))

-- `t[c & 63] = t[(c >> 3) & 63] O4 i;`
unfoldable pub store_line : Numbers → List ℕ
store_line m = codes "t[c & 63] = t[(c >> 3) & 63] " ++ m.stored ∷ codes " i;\n"

-- `if (c < b || (c & 1) == 0) c = c / L3; else c = c + 1;`
unfoldable pub split_line : Numbers → List ℕ
split_line m = numbered (codes "if (c < b || (c & 1) == 0) c = c / ") m.divisor (codes "; else c = c + 1;\n")

-- `c = c + fJ(c, a);` in a function of an odd index, where J is the index before it.
unfoldable pub call_line : ℕ → List ℕ
call_line k = if k % 2 == 1 then numbered (codes "c = c + f") (k - 1) (codes "(c, a);\n") else []

-- The function of an index, with its numbers.
abbrev pub text_with : ℕ → Numbers → List ℕ
text_with k m =
    head_line k ++ (start_line m ++ (loop_line m ++ (mix_line m ++ (store_line m ++ (split_line m ++ (codes "}\n" ++ (call_line k ++ codes "return c;\n}\n")))))))

abbrev pub function_text : (number k : ℕ) → List ℕ
function_text number k = text_with k (numbers_of number k)

-- The first functions, so many.
abbrev pub functions_text : (number size : ℕ) → List ℕ
functions_text number zero = []
functions_text number (suc k) = functions_text number k ++ function_text number k

-- `out_word(fK(K, K+1));`
unfoldable pub out_line : ℕ → List ℕ
out_line k = numbered (codes "out_word(f") k (codes "(") ++ (numbered [] k (codes ", ") ++ numbered [] (k + 1) (codes "));\n"))

-- The first calls of `main`, so many.
abbrev pub outs_text : ℕ → List ℕ
outs_text zero = []
outs_text (suc k) = outs_text k ++ out_line k

-- The text of a made program: the table `t`, the functions, and `main`, which calls each.
abbrev pub made_text : (number size : ℕ) → List ℕ
made_text number size =
    codes "int t[64];\n" ++ (functions_text number size ++ (codes "int main(void) {\n" ++ (outs_text size ++ codes "return 0;\n}\n")))
