-- The words that lines begin with, by what follows them, and the requests that they make of it.
use Rattle.std.specs.Prelude.{◌≤◌, ℕ, List, codes, ⊤}
use Rattle.rio_requests.specs.declared.request.Request.{Request}
use Rattle.rio_requests.specs.declared.request.Request.TheVariants.{Mkdir as MkdirOf, Create as CreateOf, Region as RegionOf, Write as WriteOf, Read as ReadOf, Truncate as TruncateOf, Unlink as UnlinkOf, Rmdir as RmdirOf, Stat as StatOf, List as ListOf, Begin as BeginOf, Range as RangeOf, Put as PutOf, Get as GetOf, Alloc as AllocOf, Free as FreeOf, Commit as CommitOf, Abort as AbortOf}
use Rattle.request_codec.specs.declared.words.PathWord.{PathWord}
use Rattle.request_codec.specs.declared.words.PathWord.TheVariants.{Mkdir, Create, Unlink, Rmdir, Stat, List as Listing, Begin, Commit, Abort}
use Rattle.request_codec.specs.declared.words.NumberWord.{NumberWord}
use Rattle.request_codec.specs.declared.words.NumberWord.TheVariants.{Truncate, Alloc, Free}
use Rattle.request_codec.specs.declared.words.NumbersWord.{NumbersWord}
use Rattle.request_codec.specs.declared.words.NumbersWord.TheVariants.{Region, Read, Range, Get}
use Rattle.request_codec.specs.declared.words.DataWord.{DataWord}
use Rattle.request_codec.specs.declared.words.DataWord.TheVariants.{Write, Put}
use Rattle.request_codec.specs.declared.words.OtherWord.{OtherWord}
use Rattle.request_codec.specs.declared.words.OtherWord.TheVariants.{Rename, Flush, Wild, Arm}

-- ---- words before a path

abbrev pub path_word : PathWord → List ℕ
path_word Mkdir = codes "mkdir"
path_word Create = codes "create"
path_word Unlink = codes "unlink"
path_word Rmdir = codes "rmdir"
path_word Stat = codes "stat"
path_word Listing = codes "list"
path_word Begin = codes "begin"
path_word Commit = codes "commit"
path_word Abort = codes "abort"

abbrev pub path_request : PathWord → List ℕ → Request
path_request Mkdir path = MkdirOf path
path_request Create path = CreateOf path
path_request Unlink path = UnlinkOf path
path_request Rmdir path = RmdirOf path
path_request Stat path = StatOf path
path_request Listing path = ListOf path
path_request Begin path = BeginOf path
path_request Commit path = CommitOf path
path_request Abort path = AbortOf path

-- ---- words before a path and a number

abbrev pub number_word : NumberWord → List ℕ
number_word Truncate = codes "truncate"
number_word Alloc = codes "alloc"
number_word Free = codes "free"

-- the number that may stand there
abbrev pub Takes : NumberWord → ℕ → Type 0
Takes Alloc n = 1 ≤ n
Takes _ n = ⊤

abbrev pub number_request : NumberWord → List ℕ → ℕ → Request
number_request Truncate path n = TruncateOf path n
number_request Alloc path n = AllocOf path n
number_request Free path n = FreeOf path n

-- ---- words before a path and two numbers

abbrev pub numbers_word : NumbersWord → List ℕ
numbers_word Region = codes "region"
numbers_word Read = codes "read"
numbers_word Range = codes "range"
numbers_word Get = codes "get"

-- the numbers that may stand there
abbrev pub TakesBoth : NumbersWord → ℕ → ℕ → Type 0
TakesBoth Region m n = (1 ≤ m) × (1 ≤ n)
TakesBoth Range m n = ⊤
TakesBoth _ m n = n ≤ 1048576

abbrev pub numbers_request : NumbersWord → List ℕ → ℕ → ℕ → Request
numbers_request Region path m n = RegionOf path m n
numbers_request Read path m n = ReadOf path m n
numbers_request Range path m n = RangeOf path m n
numbers_request Get path m n = GetOf path m n

-- ---- words before a path, a number and data

abbrev pub data_word : DataWord → List ℕ
data_word Write = codes "write"
data_word Put = codes "put"

abbrev pub data_request : DataWord → List ℕ → ℕ → List ℕ → Request
data_request Write path off bytes = WriteOf path off bytes
data_request Put path off bytes = PutOf path off bytes

-- ---- words before something else

abbrev pub other_word : OtherWord → List ℕ
other_word Rename = codes "rename"
other_word Flush = codes "flush"
other_word Wild = codes "wild"
other_word Arm = codes "arm"
