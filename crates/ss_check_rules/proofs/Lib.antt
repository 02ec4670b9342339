mod Common
mod SectionBreaks
