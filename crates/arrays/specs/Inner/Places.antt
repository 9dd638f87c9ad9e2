-- Where the arrays of the compiled problem have what, and the numbers that name an outcome: the constants of src/lib.rt.
use Rattle.std.specs.Prelude.{ℕ}

-- ---- the arrays
abbrev pub NUMBERS : ℕ
NUMBERS = 2432

abbrev pub SUPPORTS : ℕ
SUPPORTS = 8192

abbrev pub IMAGES : ℕ
IMAGES = 3072

abbrev pub WIDE : ℕ
WIDE = 26112

abbrev pub TABLES : ℕ
TABLES = 55296

abbrev pub STACK : ℕ
STACK = 208

abbrev pub WORK : ℕ
WORK = 3072

-- the set of variable k at depth k stands at DIAGONAL * k of the stack
abbrev pub DIAGONAL : ℕ
DIAGONAL = 17

-- ---- `numbers`
abbrev pub TOUCHING : ℕ
TOUCHING = 0

abbrev pub INITIAL : ℕ
INITIAL = 16

abbrev pub SCOPES : ℕ
SCOPES = 32

abbrev pub VARIABLES : ℕ
VARIABLES = 64

abbrev pub VALUES : ℕ
VALUES = 65

abbrev pub CONSTRAINTS : ℕ
CONSTRAINTS = 66

abbrev pub SYMMETRIES : ℕ
SYMMETRIES = 67

abbrev pub LIMIT : ℕ
LIMIT = 68

abbrev pub ROOM : ℕ
ROOM = 69

abbrev pub ORDER : ℕ
ORDER = 70

abbrev pub BLOCK : ℕ
BLOCK = 82

abbrev pub ASKS : ℕ
ASKS = 83

abbrev pub LINKED : ℕ
LINKED = 84

abbrev pub BY_ROWS : ℕ
BY_ROWS = 85

abbrev pub OTHERS : ℕ
OTHERS = 86

abbrev pub LOOSE : ℕ
LOOSE = 102

abbrev pub LOOKS : ℕ
LOOKS = 104

abbrev pub SPREAD : ℕ
SPREAD = 128

abbrev pub UNIONS : ℕ
UNIONS = 384

-- ---- `tables`
abbrev pub SMALLER : ℕ
SMALLER = 3072

abbrev pub OWN : ℕ
OWN = 52224

-- ---- `work`, after the values of the prefix
abbrev pub PLANS : ℕ
PLANS = 12

abbrev pub NUMBER : ℕ
NUMBER = 13

abbrev pub ITEM : ℕ
ITEM = 14

abbrev pub LAST : ℕ
LAST = 15

abbrev pub MARKS : ℕ
MARKS = 16

abbrev pub WANTED : ℕ
WANTED = 224

abbrev pub IDLE : ℕ
IDLE = 240

abbrev pub MEMO : ℕ
MEMO = 256

-- ---- an entry of the memo
abbrev pub ENTRY : ℕ
ENTRY = 44

abbrev pub ENTRIES : ℕ
ENTRIES = 64

abbrev pub DEPTH : ℕ
DEPTH = 0

abbrev pub LOW : ℕ
LOW = 1

abbrev pub GOOD : ℕ
GOOD = 2

abbrev pub NODES : ℕ
NODES = 3

abbrev pub LENGTH : ℕ
LENGTH = 4

abbrev pub ROWS : ℕ
ROWS = 5

abbrev pub FIRST : ℕ
FIRST = 6

abbrev pub SETS : ℕ
SETS = 8

abbrev pub ENDS : ℕ
ENDS = 20

abbrev pub COUNTS : ℕ
COUNTS = 32

abbrev pub VAIN : ℕ
VAIN = 4096

-- ---- marks
abbrev pub ENTAILED : ℕ
ENTAILED = 128

abbrev pub OBEYED : ℕ
OBEYED = 1920

abbrev pub FAILED : ℕ
FAILED = 2048

-- ---- outcomes
abbrev pub DEAD : ℕ
DEAD = 65536

abbrev pub ALL : ℕ
ALL = 0

abbrev pub SPENT : ℕ
SPENT = 1

abbrev pub FULL : ℕ
FULL = 2

abbrev pub DEEPER : ℕ
DEEPER = 3

abbrev pub REFUSED : ℕ
REFUSED = 4
