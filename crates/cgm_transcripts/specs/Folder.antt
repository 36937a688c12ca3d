-- The files of a folder.
use Rattle.cgm_shelf.specs.MemShelf.{mem_files}
use Rattle.cgm_shelf.specs.Shelf.{Files}
use Rattle.cgm_transcripts.specs.declared.folder.Folder.{Folder}

abbrev pub files_of : Folder → Files
files_of folder = mem_files folder.held
