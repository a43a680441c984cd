-- How an error of clap is handed on.
use Rattle.clap.specs.declared.error.kind.ErrorKind.{ErrorKind}
use Rattle.clap.specs.declared.error.kind.ErrorKind.TheVariants.{OutOfMemory}
use Rattle.mp_words.specs.declared.refused.WordsRefused.{WordsRefused}
use Rattle.mp_words.specs.declared.refused.WordsRefused.TheVariants.{Usage, NoMemory}

-- want of memory as itself, each fault of the words as a faulty command line
abbrev pub refusal_of : ErrorKind → WordsRefused
refusal_of OutOfMemory = NoMemory
refusal_of _ = Usage
